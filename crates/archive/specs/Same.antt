-- Whether two records describe the same state: document 01, n equal and each stabilizer row equal, sign and letters, to the one at its place. Assumes nothing.
use Rattle.std.specs.Prelude.{Bool, true, not, ◌&&◌, List, ℕ, zero, suc, eqb, Result, Ok, Err}
use Rattle.answers.specs.Verdict.{accepted, refused}
use Rattle.answers.specs.Refusals.{number_of, place_of}
use Rattle.pauli.specs.Letters.{Letter, ◌⊕◌, x, z}
use Rattle.pauli.specs.Rows.{Row}
use Rattle.records.specs.Reading.{Read, read_of}
use Rattle.archive.specs.declared.Unread.{Unread}
use Rattle.archive.specs.declared.Unread.TheVariants.{First, Second}

-- all of the first n pass
abbrev pub all_of : (ℕ → Bool) → ℕ → Bool
all_of f zero = true
all_of f (suc n) = all_of f n && f n

abbrev pub equal_bits : Bool → Bool → Bool
equal_bits a b = not (a ⊕ b)

abbrev pub equal_letters : Letter → Letter → Bool
equal_letters a b = equal_bits (x a) (x b) && equal_bits (z a) (z b)

-- sign and letters
abbrev pub equal_rows : ℕ → Row → Row → Bool
equal_rows n r s = equal_bits r.minus s.minus && all_of (λ j. equal_letters (r.letters j) (s.letters j)) n

abbrev pub same_state : Read → Read → Bool
same_state r s = eqb r.qubits s.qubits && all_of (λ i. equal_rows r.qubits (r.rows.stabilizer i) (s.rows.stabilizer i)) r.qubits

-- the answer of the comparison: same or not, or which of the two was refused, with its number and place
pub data Compared : Type 0 where
  compared : Bool → Compared
  first_refused second_refused : (number place : ℕ) → Compared

-- both are read first; a refusal of the first comes before one of the second
abbrev pub same_of : List ℕ → List ℕ → Compared
same_of first second =
    elim (read_of first) [
      | accepted r ↦ elim (read_of second) [ accepted s ↦ compared (same_state r s) | refused number place ↦ second_refused number place ]
      | refused number place ↦ first_refused number place
    ]

-- what each answer says: same or not, or which of the two was refused, with its number and place
abbrev pub told_same : Result Bool Unread → Compared
told_same (Ok b) = compared b
told_same (Err (First r)) = first_refused (number_of r) (place_of r)
told_same (Err (Second r)) = second_refused (number_of r) (place_of r)
