-- Reading the last record of some bytes: its rows and outcomes, or refusal 9, 10 or 11. Document 01, "The run record" and "Numbered refusals". Assumes nothing.
use Rattle.std.specs.Prelude.{Bool, true, false, not, ◌&&◌, cond, List, [], ◌∷◌, ℕ, ◌+◌, ◌-◌, ◌*◌, ◌%◌, eqb, leb, ltb, length, get_or, take, drop}
use Rattle.std.specs.Prelude.{Option, None, Some, is_some}
use Rattle.answers.specs.First.{lowest}
use Rattle.answers.specs.Verdict.{Verdict, accepted, unless, unless_at}
use Rattle.pauli.specs.Letters.{◌⊕◌}
use Rattle.pauli.specs.Rows.{Row, anticommute}
use Rattle.pauli.specs.Texts.{fits_at, spelled}
use Rattle.limits.specs.Limits.{most_qubits, most_operations}
use Rattle.clifford.specs.Tableau.{Rows, blank, numbered}
use Rattle.records.specs.Record.{to_rows}

-- the number that stands in some bytes, lowest byte first
unfoldable pub number_in : List ℕ → ℕ
number_in [] = 0
number_in (b ∷ bs) = b + 256 * number_in bs

-- the last 12 bytes, and what they say
abbrev pub last_twelve : List ℕ → List ℕ
last_twelve s = drop (length s - 12) s

abbrev pub first_distance : List ℕ → ℕ
first_distance s = number_in (take 4 (last_twelve s))

abbrev pub second_distance : List ℕ → ℕ
second_distance s = number_in (take 4 (drop 4 (last_twelve s)))

abbrev pub qubits_in : List ℕ → ℕ
qubits_in s = number_in (take 2 (drop 8 (last_twelve s)))

abbrev pub marked : List ℕ → Bool
marked s = eqb (get_or (last_twelve s) 10 0) 0x53 && eqb (get_or (last_twelve s) 11 0) 0x52

-- 9: fewer than 12 bytes; wrong mark; n not 1 to 128; first distance wrong; second less than the first, or more than 4,096 above it, or beyond the lent bytes
abbrev pub ends_in_record : List ℕ → Bool
ends_in_record s =
    leb 12 (length s) && marked s && leb 1 (qubits_in s) && leb (qubits_in s) most_qubits
    && eqb (first_distance s) (to_rows (qubits_in s)) && leb (first_distance s) (second_distance s)
    && leb (second_distance s) (first_distance s + most_operations) && leb (second_distance s) (length s)

-- the last record of these bytes
unfoldable pub last_record : List ℕ → List ℕ
last_record s = drop (length s - second_distance s) s

abbrev pub outcome_count : List ℕ → ℕ
outcome_count s = second_distance s - first_distance s

-- the part of the record that holds the outcomes
abbrev pub outcome_part : List ℕ → List ℕ
outcome_part s = take (outcome_count s) (last_record s)

abbrev pub is_mark : ℕ → Bool
is_mark b = leb 48 b && leb b 51

-- the byte at this place of a record of n qubits with so many outcomes is one listed
abbrev pub byte_fits : ℕ → ℕ → ℕ → ℕ → Bool
byte_fits n count k b = cond (ltb k count) (is_mark b) (fits_at ((k - count) % (n + 1)) b)

-- 10: an outcome, sign or letter byte not listed: the first such byte, from the record's start
unfoldable pub first_bad : ℕ → ℕ → List ℕ → Option ℕ
first_bad n count r = lowest (λ k. not (byte_fits n count k (get_or r k 0))) (count + 2 * (n * (n + 1)))

-- row i of the 2n of a record
unfoldable pub row_in : ℕ → ℕ → List ℕ → ℕ → Row
row_in n count r i = spelled (take (n + 1) (drop (count + i * (n + 1)) r))

-- row i of the 2n of the last record of these bytes
abbrev pub record_row : List ℕ → ℕ → Row
record_row s i = row_in (qubits_in s) (outcome_count s) (last_record s) i

-- the rows of this record
unfoldable pub rows_in : ℕ → ℕ → List ℕ → Rows
rows_in n count r = record {
  destabilizer = λ i. cond (ltb i n) (row_in n count r i) blank;
  stabilizer = λ i. cond (ltb i n) (row_in n count r (n + i)) blank;
}

-- a lower and an upper row are a wrong pair: partners that commute, or others that anticommute
abbrev pub wrong_pair : ℕ → Rows → ℕ → ℕ → Bool
wrong_pair n t i j = ltb i j && (anticommute n (numbered n t i).letters (numbered n t j).letters ⊕ eqb j (n + i))

-- 11: the lower row of the first wrong pair, by lower row, then upper
unfoldable pub first_wrong : ℕ → Rows → Option ℕ
first_wrong n t = lowest (λ i. is_some (lowest (wrong_pair n t i) (n + n))) (n + n)

-- what is read: n, the record's length, its outcome characters and its rows
pub record Read : Type 0 where
  pub qubits : ℕ
  pub size : ℕ
  pub marks : List ℕ
  pub rows : Rows

abbrev pub reading : ℕ → ℕ → List ℕ → Verdict Read
reading n count r =
    unless_at 10 (first_bad n count r)
    (unless_at 11 (first_wrong n (rows_in n count r)) (accepted (record { qubits = n; size = to_rows n + count; marks = take count r; rows = rows_in n count r })))

unfoldable pub read_of : List ℕ → Verdict Read
read_of s = unless (ends_in_record s) 9 0 (reading (qubits_in s) (outcome_count s) (last_record s))
