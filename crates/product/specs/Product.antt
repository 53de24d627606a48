-- The product of two row texts: document 01, "Row product", with the refusals 13, 10, 12 in that order, then 8. Assumes nothing.
use Rattle.std.specs.Prelude.{Bool, not, ◌&&◌, cond, List, ℕ, ◌+◌, ◌-◌, eqb, leb, ltb, length, get_or}
use Rattle.std.specs.Prelude.{Option}
use Rattle.answers.specs.First.{lowest}
use Rattle.answers.specs.Verdict.{Verdict, accepted, unless, unless_at}
use Rattle.limits.specs.Limits.{most_qubits}
use Rattle.pauli.specs.Rows.{anticommute, times_row}
use Rattle.pauli.specs.Texts.{fits_at, row_text, spelled}

-- the longest row text: a sign, and a letter for each qubit
abbrev pub longest_row : ℕ
longest_row = 1 + most_qubits

-- 13: lengths differ, or not 2 to 129 bytes
abbrev pub lengths_fit : List ℕ → List ℕ → Bool
lengths_fit first second = eqb (length first) (length second) && leb 2 (length first) && leb (length first) longest_row

-- the byte at this place, counted through the first row, then the second, is one listed
abbrev pub listed_at : List ℕ → List ℕ → ℕ → Bool
listed_at first second k =
    cond (ltb k (length first)) (fits_at k (get_or first k 0)) (fits_at (k - length first) (get_or second (k - length first) 0))

-- 10: the first byte that is not
abbrev pub first_bad_of_two : List ℕ → List ℕ → Option ℕ
first_bad_of_two first second = lowest (λ k. not (listed_at first second k)) (length first + length second)

-- 12: the rows anticommute; else their product
abbrev pub multiplied : ℕ → List ℕ → List ℕ → Verdict (List ℕ)
multiplied n first second =
    unless (not (anticommute n (spelled first).letters (spelled second).letters)) 12 0
    (accepted (row_text n (times_row n (spelled first) (spelled second))))

abbrev pub product_of : List ℕ → List ℕ → Verdict (List ℕ)
product_of first second = unless (lengths_fit first second) 13 0 (unless_at 10 (first_bad_of_two first second) (multiplied (length first - 1) first second))
