-- The run record as bytes: all outcomes, the 2n rows, and a trailer of 12 bytes that points back. Document 01, "The run record". Assumes nothing.
use Rattle.std.specs.Prelude.{Bool, true, false, ◌||◌, List, [], ◌∷◌, ◌++◌, map, ℕ, zero, suc, ◌+◌, ◌*◌, ◌/◌, ◌%◌, eqb, length}
use Rattle.pauli.specs.Texts.{listed, row_text}
use Rattle.limits.specs.Limits.{most_qubits, most_operations}
use Rattle.clifford.specs.Tableau.{Rows}
use Rattle.clifford.specs.declared.Outcome.{Outcome}

-- `0`, `1` fixed; `2`, `3` random with value 0, 1
abbrev pub mark_of : Bool → Bool → ℕ
mark_of false false = 48
mark_of false true = 49
mark_of true false = 50
mark_of true true = 51

abbrev pub mark : Outcome → ℕ
mark o = mark_of o.random o.value

-- the outcome that a character tells
abbrev pub outcome_of : ℕ → Outcome
outcome_of b = record { random = eqb b 50 || eqb b 51; value = eqb b 49 || eqb b 51 }

-- a number in so many bytes, lowest byte first
unfoldable pub low_first : ℕ → ℕ → List ℕ
low_first zero v = []
low_first (suc k) v = v % 256 ∷ low_first k (v / 256)

-- lists joined end to end
unfoldable pub joined : List (List ℕ) → List ℕ
joined [] = []
joined (l ∷ ls) = l ++ joined ls

-- the 2n rows in order, destabilizers first
unfoldable pub rows_text : ℕ → Rows → List ℕ
rows_text n t = joined (listed (λ i. row_text n (t.destabilizer i)) n) ++ joined (listed (λ i. row_text n (t.stabilizer i)) n)

-- the distance from the record's end to the first row
abbrev pub to_rows : ℕ → ℕ
to_rows n = 12 + 2 * (n * (n + 1))

-- the trailer of a record with n qubits and so many outcomes: distance to the first row, distance to the record's start, n, and 53 52 hexadecimal
unfoldable pub trailer : ℕ → ℕ → List ℕ
trailer n count = low_first 4 (to_rows n) ++ low_first 4 (to_rows n + count) ++ low_first 2 n ++ (0x53 ∷ 0x52 ∷ [])

-- a record of n qubits with these outcome characters
unfoldable pub record_with : ℕ → List ℕ → Rows → List ℕ
record_with n marks t = marks ++ rows_text n t ++ trailer n (length marks)

abbrev pub record_of : ℕ → List Outcome → Rows → List ℕ
record_of n outcomes t = record_with n (map mark outcomes) t

abbrev pub record_length : ℕ → ℕ → ℕ
record_length n count = count + to_rows n

-- the longest record, of 37,132 bytes
abbrev pub longest_record : ℕ
longest_record = record_length most_qubits most_operations
