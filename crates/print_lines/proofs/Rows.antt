-- Rows that stand end to end, one more of them as a line. Assumes nothing.
use mathlib.Core.List.{List, [], ◌∷◌, ◌++◌}
use mathlib.Core.Path.{◌≡◌, refl, ◌∙◌, ap}
use Prim.Native.Nat.{ℕ, ◌+◌, ◌*◌, ◌-◌, ◌≤◌, ◌<◌}
use native.Mathlib.Nat.{suc-mul, mul-le-mul_right}
use native.Mathlib.Numerals.{add-one}
use native.Mathlib.Omega.{arith}
use lib.ListN.{length, take, drop, length-take, length-drop}
use Rattle.pauli.specs.Texts.{listed}
use Rattle.records.specs.Record.{joined}
use Rattle.records.proofs.Joined.{listed_more, joined_more}
use Rattle.lines.specs.declared.Lines.{Lines}
use Rattle.lines.specs.Parts.Putting.{Puts}
use Rattle.lines.proofs.Putting.{puts_none, puts_then, puts_as}
use Rattle.print_lines.specs.Rows.{parts_closed}

module _ (width : ℕ) (rows : List ℕ) where
  rows_none : parts_closed width rows 0 ≡ []
  unfolding parts_closed joined listed
  rows_none = refl

  rows_more : (i : ℕ) → parts_closed width rows (i + 1) ≡ parts_closed width rows i ++ (take width (drop (i * width) rows) ++ (10 ∷ []))
  unfolding parts_closed
  rows_more i =
      ap (λ (n : ℕ). joined (listed (λ j. take width (drop (j * width) rows) ++ (10 ∷ [])) n)) (add-one i)
      ∙ ap joined (listed_more (λ j. take width (drop (j * width) rows) ++ (10 ∷ [])) i)
      ∙ joined_more (listed (λ j. take width (drop (j * width) rows) ++ (10 ∷ [])) i) (take width (drop (i * width) rows) ++ (10 ∷ []))

-- so many rows are put
pub record RowsPut (width : ℕ) (rows : List ℕ) (i : ℕ) (before after : Lines) : Type 0 where
  pub puts : Puts (parts_closed width rows i) before after
  pub position : after.at ≡ before.at + (i * width + i)

-- a row more ends with the rows
pub row_within : (i count width : ℕ) → i < count → i * width + width ≤ count * width
row_within i count width h = omega (arith, suc-mul i width, mul-le-mul_right width h)

module _ (width : ℕ) (rows : List ℕ) where
  pub row_begin : (before : Lines) → RowsPut width rows 0 before before
  row_begin before = record { puts = puts_as (rows_none width rows) (puts_none before); position = omega arith }

  pub row_length : (from : ℕ) → from + width ≤ length rows → length (take (from + width - from) (drop from rows)) ≡ width
  row_length from h = length-take (from + width - from) (drop from rows) ∙ omega (arith, length-drop from rows)

  pub row_put :
      (i : ℕ) (before between text after : Lines) → i * width + width ≤ length rows → RowsPut width rows i before between
      → Puts (take (i * width + width - i * width) (drop (i * width) rows)) between text → Puts (10 ∷ []) text after → RowsPut width rows (i + 1) before after
  row_put i before between text after h p q r =
      let w : i * width + width - i * width ≡ width = omega arith in
      record {
        puts = puts_as (rows_more width rows i) (puts_then p.puts (puts_then (rw w at q) r));
        position = omega (arith, p.position, q.next_is, r.next_is, row_length (i * width) h, suc-mul i width, ap (λ n. n * width) (add-one i));
      }
