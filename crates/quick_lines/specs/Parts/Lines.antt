-- What the functions that read a line at once promise. Assumes nothing.
use Rattle.std.specs.Prelude.{true, ◌&&◌, cond, List, ◌≡◌, ℕ, ◌+◌, ◌*◌, ◌%◌, ◌<◌, eqb, length, get_or, drop, Option, None, Some}
use Rattle.answers.specs.Verdict.{accepted}
use Rattle.clifford.specs.declared.Two.{Two}
use Rattle.clifford.specs.declared.Two.TheVariants.{Cx, Cz}
use Rattle.clifford.specs.declared.Op.{Op}
use Rattle.circuit.specs.Lines.{space, is_digit, qubit, op_line}
use Rattle.circuit.specs.Text.{all_below, apart, operations}
use Rattle.circuit.specs.Parts.Reading.{Stands}
use Rattle.quick_lines.specs.declared.FlatOp.{FlatOp}
use Rattle.quick_lines.specs.Flat.{op_of}

-- the letter behind the C of a gate on two qubits
abbrev pub second_letter : Two → ℕ
second_letter Cx = 88
second_letter Cz = 90

-- the line there is this operation's, so long, and 4 and 5 do not refuse it
pub record Allowed (s : List ℕ) (at n : ℕ) (op : Op) (length : ℕ) : Type 0 where
  pub stands : Stands op_line s at op (at + length)
  pub below : all_below n op ≡ true
  pub parted : apart op ≡ true

-- an allowed operation; None says nothing
abbrev pub Usual : List ℕ → ℕ → ℕ → Option (FlatOp × ℕ) → Type 0
Usual s at n (Some (op, length)) = Allowed s at n (op_of op) length
Usual s at n None = Unit {0}

-- an allowed operation, or None where no text goes on that is accepted
abbrev pub OpAt : List ℕ → ℕ → ℕ → Option (FlatOp × ℕ) → Type 0
OpAt s at n (Some (op, length)) = Allowed s at n (op_of op) length
OpAt s at n None = at < length s → (room line : ℕ) (ops : List Op) → operations n room line (drop at s) ≡ accepted ops → ⊥

-- how many digits a number behind a space has, if the byte stop ends it: three where that stands behind the third, and otherwise by the byte behind the first
abbrev pub digits_at : List ℕ → ℕ → ℕ → ℕ
digits_at s at stop = cond (eqb (get_or s (at + 4) 0) stop) 3 (cond (is_digit (get_or s (at + 2) 0)) 2 1)

-- the qubit whose number stands there behind a space, with the byte stop behind it
pub record EndsBy (s : List ℕ) (at stop value : ℕ) : Type 0 where
  pub spaced : get_or s at 0 ≡ space
  pub stands : Stands qubit s at value (at + 1 + digits_at s at stop)
  pub stops : get_or s (at + 1 + digits_at s at stop) 0 ≡ stop

-- it does, and the value is below n; None says nothing
abbrev pub QubitAt : List ℕ → ℕ → ℕ → ℕ → Option ℕ → Type 0
QubitAt s at n stop (Some value) = (value < n) × EndsBy s at stop value
QubitAt s at n stop None = Unit {0}

-- the number of three digits that these bytes make
abbrev pub three_digits : ℕ → ℕ → ℕ → ℕ → Type 0
three_digits first second third value = ((is_digit second && is_digit third) ≡ true) × (value ≡ 100 * (first % 16) + 10 * (second % 16) + third % 16)
