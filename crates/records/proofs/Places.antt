-- The rows of a record by number, 0 to 2n-1, and the place of each of their bytes. Assumes nothing.
use mathlib.Core.Path.{◌≡◌, ◌∙◌, ap, ap₂}
use mathlib.Core.List.{List, ◌++◌}
use Prim.Native.Nat.{ℕ, ◌+◌, ◌*◌, ◌/◌, ◌%◌, ◌≤◌, ◌<◌}
use native.Mathlib.Nat.{add-mul, suc-mul, mul-le-mul_right, div-lt_iff_lt-mul}
use native.Mathlib.Omega.{arith}
use lib.Arith.{digits_mod}
use lib.ListN.{get_or, take, drop}
use lib.Seq.{get_or-take, get_or-drop}
use Rattle.pauli.specs.Texts.{listed, row_text}
use Rattle.pauli.proofs.Listed.{listed_ext}
use Rattle.clifford.specs.Tableau.{Rows, numbered}
use Rattle.records.specs.Record.{joined, rows_text}
use Rattle.records.proofs.Joined.{listed_split, joined_append}
use Rattle.clifford.proofs.Partners.{numbered_low, numbered_high}

pub rows_numbered : (n : ℕ) (t : Rows) → joined (listed (λ i. row_text n (numbered n t i)) (n + n)) ≡ rows_text n t
unfolding rows_text
rows_numbered n t =
    ap joined (listed_split (λ i. row_text n (numbered n t i)) n n)
    ∙ joined_append (listed (λ i. row_text n (numbered n t i)) n) (listed (λ i. row_text n (numbered n t (n + i))) n)
    ∙ ap₂ (λ k l. joined k ++ joined l)
    (listed_ext (λ i. row_text n (numbered n t i)) (λ i. row_text n (t.destabilizer i)) n (λ i l. ap (row_text n) (numbered_low n t i l)))
    (listed_ext (λ i. row_text n (numbered n t (n + i))) (λ i. row_text n (t.stabilizer i)) n (λ i l. ap (row_text n) (numbered_high n t i)))

module _ (n : ℕ) where
  pub all_rows : (n + n) * (n + 1) ≡ 2 * (n * (n + 1))
  all_rows = omega (arith, add-mul n n (n + 1))

  -- row i ends within them
  pub row_within : (i : ℕ) → i < n + n → i * (n + 1) + (n + 1) ≤ 2 * (n * (n + 1))
  row_within i l = omega (arith, all_rows, suc-mul i (n + 1), mul-le-mul_right (n + 1) l)

  -- each place is one of a row
  pub row_of_place : (p : ℕ) → p < 2 * (n * (n + 1)) → p / (n + 1) < n + n
  row_of_place p l = (div-lt_iff_lt-mul {k = n + 1} {x = p} {y = n + n} (omega arith)).1 (omega (arith, all_rows))

  pub place_of_row : (i e : ℕ) → e < n + 1 → (i * (n + 1) + e) % (n + 1) ≡ e
  place_of_row i e l = digits_mod i l

-- byte e of the part of w bytes at a place
pub byte_of_part : (r : List ℕ) (w at e : ℕ) → e < w → get_or (take w (drop at r)) e 0 ≡ get_or r (at + e) 0
byte_of_part r w at e l = get_or-take w (drop at r) e 0 l ∙ get_or-drop at r e 0
