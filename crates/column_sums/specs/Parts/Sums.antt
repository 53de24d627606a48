-- What the sums of columns are, which of them a row picks, and what they tell. Assumes nothing.
use Rattle.std.specs.Prelude.{Bool, cond, List, ◌≡◌, ℕ, ◌+◌, ◌*◌, ◌/◌, ◌%◌, ◌<◌, length, get_or}
use Rattle.limits.specs.Limits.{most_qubits}
use Rattle.pauli.specs.Letters.{Letter, ◌⊕◌, letter, differ, x, z}
use Rattle.pauli.specs.Rows.{anticommute}
use Rattle.pauli.specs.Texts.{letter_of}
use Rattle.packing.specs.View.{row_count, letter_at}
use Rattle.words.specs.Bit.{bit}
use Rattle.groups.specs.declared.Group.{Group}
use Rattle.groups.specs.Parts.Rows.{row_bit}
use Rattle.read_rows.specs.Parts.Loading.{column_of}

-- two qubits stand so far apart at most, and there are so many sums
abbrev pub half_most : ℕ
half_most = most_qubits / 2

abbrev pub sum_count : ℕ
sum_count = 16 * half_most

-- what group k of some groups tells of row s
abbrev pub no_rows : Group
no_rows = record { a = 0; b = 0; c = 0; d = 0 }

abbrev pub told_at : List Group → ℕ → ℕ → Bool
told_at t k s = row_bit (get_or t k no_rows) s

-- the number of the letter that a byte spells: 1 for its x and 2 for its z
abbrev pub spelled_number : ℕ → ℕ
spelled_number b = cond (x (letter_of b)) 1 0 + 2 * cond (z (letter_of b)) 1 0

-- the letter of number e, the other way round
abbrev pub letter_numbered : ℕ → Letter
letter_numbered e = letter (bit 0 e) (bit 1 e)

-- sum number k is one of qubits j and half + j, where j is k / 16: it tells of row s whether its two letters there differ from those of numbers k % 4 and k / 4 % 4, neither being I, in one place
abbrev pub tells : List ℕ → ℕ → ℕ → ℕ → Bool
tells w half k s = differ (letter_numbered (k % 4)) (letter_at w s (k / 16)) ⊕ differ (letter_numbered (k / 4 % 4)) (letter_at w s (half + k / 16))

-- the first m sums
pub record Summed (w : List ℕ) (half m : ℕ) (t : List Group) : Type 0 where
  pub size : length t ≡ sum_count
  pub sums : (k s : ℕ) → k < m → s < row_count → told_at t k s ≡ tells w half k s

-- which of the sixteen sums of qubits j and half + j these letters pick; where there is no letter, it counts as I
pub record Picks (letters : List ℕ) (half : ℕ) (p : List ℕ) : Type 0 where
  pub size : length p ≡ half_most
  pub places : (j : ℕ) → j < half → get_or p j 0 ≡ spelled_number (get_or letters j 0) + 4 * spelled_number (get_or letters (half + j) 0)

-- of each of the first m rows of n letters that are spelled, row behind row: which packed rows anticommute with it
pub record Against (texts : List ℕ) (n : ℕ) (w : List ℕ) (m : ℕ) (found : List Group) : Type 0 where
  pub size : length found ≡ row_count
  pub bits : (i s : ℕ) → i < m → s < row_count → told_at found i s ≡ anticommute n (λ j. column_of texts n j i) (letter_at w s)
