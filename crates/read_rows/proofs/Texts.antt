-- The text of a row, byte by byte, and where it stands. Assumes nothing.
use mathlib.Core.Path.{◌≡◌, ◌∙◌, ap}
use mathlib.Core.List.{List}
use Prim.Native.Nat.{ℕ, suc, ◌+◌, ◌-◌, ◌*◌, ◌≤◌, ◌<◌}
use native.Mathlib.Nat.{add-mul, mul-le-mul_right}
use native.Mathlib.Numerals.{one-add}
use native.Mathlib.Omega.{arith}
use lib.ListN.{length, get_or, take, drop, length-drop}
use lib.Seq.{length-take-le, get_or-take, get_or-drop}
use Rattle.read_rows.specs.Parts.Texts.{text_of}

-- row i lies within the 2n rows
pub row_inside : (n i : ℕ) → i < n + n → i * (n + 1) + (n + 1) ≤ 2 * (n * (n + 1))
row_inside n i h = omega (arith, mul-le-mul_right (n + 1) h, add-mul n n (n + 1), add-mul i 1 (n + 1))

pub text_byte : (s : List ℕ) (n i k : ℕ) → k < n + 1 → get_or (text_of s n i) k 0 ≡ get_or s (i * (n + 1) + k) 0
text_byte s n i k h = get_or-take (n + 1) (drop (i * (n + 1)) s) k 0 h ∙ get_or-drop (i * (n + 1)) s k 0

-- the letters of a row, behind its sign
abbrev pub letters : List ℕ → List ℕ
letters row = take (length row - 1) (drop 1 row)

module _ (row text : List ℕ) (n : ℕ) (is : row ≡ text) (size : length row ≡ n + 1) where
  pub letter_count : length (letters row) ≡ n
  letter_count = length-take-le (length row - 1) (drop 1 row) (omega (arith, length-drop 1 row)) ∙ omega (arith, size)

  pub letter_byte_at : (j : ℕ) → j < n → get_or (letters row) j 0 ≡ get_or text (suc j) 0
  letter_byte_at j h = get_or-take (length row - 1) (drop 1 row) j 0 (omega (arith, size)) ∙ get_or-drop 1 row j 0 ∙ ap (λ (k : ℕ). get_or row k 0) (one-add j) ∙ ap (λ (s : List ℕ). get_or s (suc j) 0) is
