-- What the parts of a walk with a stated readout promise one another: a measurement, one line, and all lines. The values stated are the characters' lowest bits.
-- Assumes nothing.
use Rattle.std.specs.Prelude.{Bool, Option, None, Some, Result, Ok, Err, true, List, ◌∷◌, ◌++◌, map, ◌≡◌, ℕ, suc, ◌+◌, ◌-◌, ◌≤◌, ◌<◌, length, drop}
use Rattle.limits.specs.Limits.{most_operations}
use Rattle.answers.specs.Verdict.{accepted, then}
use Rattle.clifford.specs.declared.After.{After}
use Rattle.clifford.specs.declared.Op.{Op}
use Rattle.clifford.specs.declared.Op.TheVariants.{Measure as measure}
use Rattle.clifford.specs.Tableau.{Rows, start}
use Rattle.clifford.specs.Run.{coin}
use Rattle.circuit.specs.Lines.{op_line}
use Rattle.circuit.specs.Parts.Reading.{Stands}
use Rattle.circuit.specs.Text.{all_below, apart, operations, measures, count_measured}
use Rattle.packing.specs.declared.Packed.{Packed}
use Rattle.packing.specs.View.{rows_of, Holds}
use Rattle.tally.specs.Tally.{one_if}
use Rattle.walking.specs.Parts.Walk.{lines_of}
use Rattle.readouts.specs.Readouts.{possible, impossible, weigh}
use Rattle.weighing.specs.declared.Passed.{Passed}
use Rattle.weighing.specs.declared.Stopped.{Stopped}

-- a measurement is passed, and counts as so many random ones
pub record Hears (n : ℕ) (f : After) (a : ℕ) (t : Rows) (stated : List ℕ) (at more : ℕ) (words' : List ℕ) : Type 0 where
  pub holds : Holds n words'
  pub same : (line : ℕ) (ops : List Op) (k : ℕ)
      → weigh n line (measure f a ∷ ops) t (drop at (map coin stated)) k ≡ weigh n (suc line) ops (rows_of n words') (drop (at + 1) (map coin stated)) (k + more)

-- whether it is random, or that it goes no further
abbrev pub HeardOf : ℕ → After → ℕ → Rows → List ℕ → ℕ → Option Bool → List ℕ → Type 0
HeardOf n f a t stated at (Some random) words' = Hears n f a t stated at (one_if random) words'
HeardOf n f a t stated at None words' = (line : ℕ) (ops : List Op) (k : ℕ) → weigh n line (measure f a ∷ ops) t (drop at (map coin stated)) k ≡ impossible line

-- of the same number of qubits
pub record HeardAs (f : After) (a : ℕ) (r : Packed) (stated : List ℕ) (at : ℕ) (o : Option Bool) (r' : Packed) : Type 0 where
  pub same : r'.qubits ≡ r.qubits
  pub is : HeardOf r.qubits f a (rows_of r.qubits r.words) stated at o r'.words

-- the counts have room for one more
pub record Weighable (p : Passed) : Type 0 where
  pub measured : p.measured < most_operations
  pub random : p.random < most_operations

-- the line at this position is allowed and done, and the next one stands behind it
pub record Paces (text : List ℕ) (at n : ℕ) (stated words : List ℕ) (p : Passed) (next : ℕ) (words' : List ℕ) (p' : Passed) : Type 0 where
  pub op : Op
  pub stands : Stands op_line text at op next
  pub below : all_below n op ≡ true
  pub parted : apart op ≡ true
  pub holds : Holds n words'
  pub measured_is : p'.measured ≡ p.measured + measures op
  pub random_few : p'.random ≤ p.random + measures op
  pub same : (line : ℕ) (ops : List Op)
      → weigh n line (op ∷ ops) (rows_of n words) (drop p.measured (map coin stated)) p.random
      ≡ weigh n (suc line) ops (rows_of n words') (drop p'.measured (map coin stated)) p'.random

-- the line is refused; or, if all lines from here on are allowed, it is impossible at this one
abbrev pub Halts : List ℕ → ℕ → ℕ → List ℕ → List ℕ → Passed → Type 0
Halts text at n stated words p = at < length text → (room line : ℕ) (ops : List Op) → operations n room line (drop at text) ≡ accepted ops
    → weigh n line ops (rows_of n words) (drop p.measured (map coin stated)) p.random ≡ impossible line

abbrev pub PacedOf : List ℕ → ℕ → ℕ → List ℕ → List ℕ → Passed → Option (ℕ × Passed) → List ℕ → Type 0
PacedOf text at n stated words p (Some (next, p')) words' = Paces text at n stated words p next words' p'
PacedOf text at n stated words p None words' = Halts text at n stated words p

-- of the same number of qubits
pub record PacedAs (text : List ℕ) (at : ℕ) (stated : List ℕ) (r : Packed) (p : Passed) (o : Option (ℕ × Passed)) (r' : Packed) : Type 0 where
  pub same : r'.qubits ≡ r.qubits
  pub is : PacedOf text at r.qubits stated r.words p o r'.words

-- where the walk may begin: with the start rows
abbrev pub Fresh : Packed → Type 0
Fresh r = rows_of r.qubits r.words ≡ start r.qubits

-- the walk came to the end of the text, which is thereby accepted, and its readout possible
pub record WeighsAll (text : List ℕ) (body n : ℕ) (stated : List ℕ) (p : Passed) : Type 0 where
  pub lines : operations n most_operations 2 (drop body text) ≡ accepted (lines_of n body text)
  pub measured_is : p.measured ≡ count_measured (lines_of n body text)
  pub is : weigh n 2 (lines_of n body text) (start n) (map coin stated) 0 ≡ possible p.random

-- it came to a line that goes no further: if the lines from there on are allowed, the readout is impossible at this one
pub record WeighsPart (text : List ℕ) (body n : ℕ) (stated : List ℕ) (at done : ℕ) (p : Passed) : Type 0 where
  pub before : List Op
  pub left : operations n most_operations 2 (drop body text) ≡ then (operations n (most_operations - done) (done + 2) (drop at text)) (λ ops. accepted (before ++ ops))
  pub measured_is : p.measured ≡ count_measured before
  pub enough : done ≤ most_operations
  pub few : p.measured ≤ done
  pub against : (ops : List Op) → operations n (most_operations - done) (done + 2) (drop at text) ≡ accepted ops
      → weigh n 2 (before ++ ops) (start n) (map coin stated) 0 ≡ impossible (done + 2)

abbrev pub WeighedAs : List ℕ → ℕ → ℕ → List ℕ → Result Passed Stopped → Type 0
WeighedAs text body n stated (Ok p) = WeighsAll text body n stated p
WeighedAs text body n stated (Err s) = WeighsPart text body n stated s.at s.done s.passed
