-- What the kind and the value of an outcome say, of the bytes of two records: request m of document 02. One text goes on where the other ends, with a line that
-- measures a qubit; the record of the shorter one says what the outcome of that line must be. Assumes nothing.
use Rattle.std.specs.Prelude.{Bool, true, false, List, ◌++◌, ◌⊎◌, ◌↔◌, ◌≡◌, ℕ}
use Rattle.answers.specs.Verdict.{accepted}
use Rattle.clifford.specs.declared.After.{After}
use Rattle.clifford.specs.declared.Op.{Op}
use Rattle.clifford.specs.declared.Op.TheVariants.{Measure as measure}
use Rattle.clifford.specs.Measurement.{settled}
use Rattle.clifford.specs.Generators.{OfStabilizers}
use Rattle.circuit.specs.Text.{meaning}
use Rattle.circuit_writer.specs.Writing.{line_text}
use Rattle.records.specs.Reading.{qubits_in, record_row}

-- the longer text is the shorter one, then the line `M a` or `MR a`, then whatever follows
pub record Goes_on (short long : List ℕ) (a : ℕ) : Type 0 where
  pub after : After
  pub later : List ℕ
  pub is : long ≡ short ++ line_text (measure after a) ++ later

-- a text with these operations alone stops before a line of the longer text that measures a
pub record StopsBefore (long : List ℕ) (n : ℕ) (front : List Op) (a : ℕ) : Type 0 where
  pub short : List ℕ
  pub meant : meaning short ≡ accepted (record { qubits = n; ops = front })
  pub goes_on : Goes_on short long a

-- Z on a alone, minus when m is true, is a product of the stabilizer rows of the last record of these bytes
abbrev pub ZMade : List ℕ → ℕ → Bool → Type 0
ZMade s a m = OfStabilizers (qubits_in s) (record_row s) (settled a m)

-- what an outcome character of a measurement of a says of the record before it
pub record KindMeans (before : List ℕ) (a character : ℕ) : Type 0 where
  -- `0`, fixed at 0, exactly when plus Z on a is a product of its stabilizer rows
  pub zero : (character ≡ 48) ↔ ZMade before a false
  -- `1`, fixed at 1, exactly when minus Z is
  pub one : (character ≡ 49) ↔ ZMade before a true
  -- `2` or `3`, random, exactly when neither is
  pub random : ((character ≡ 50) ⊎ (character ≡ 51)) ↔ ((ZMade before a false → ⊥) × (ZMade before a true → ⊥))
