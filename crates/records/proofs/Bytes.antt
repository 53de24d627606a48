-- Each byte of a record by its place: an outcome character, a byte of a row's text, or one of the trailer. Assumes nothing.
use mathlib.Core.Path.{◌≡◌, refl, sym, ◌∙◌, ap}
use mathlib.Core.List.{List, ◌++◌, append_assoc}
use Prim.Native.Nat.{ℕ, ◌+◌, ◌-◌, ◌*◌, ◌/◌, ◌%◌, ◌≤◌, ◌<◌}
use native.Mathlib.Nat.{mod-lt, div-add-mod'}
use native.Mathlib.Omega.{arith}
use lib.ListN.{length, get_or, take, drop, length-append, get_or-append}
use lib.Seq.{take_at, drop-append-add, get_or-append-add}
use Rattle.pauli.specs.Texts.{row_text}
use Rattle.clifford.specs.Tableau.{Rows, numbered}
use Rattle.records.specs.Record.{rows_text, trailer, record_with}
use Rattle.records.proofs.Lengths.{length-row_text, length-rows_text}
use Rattle.records.proofs.Joined.{block}
use Rattle.records.proofs.Places.{rows_numbered, row_of_place, byte_of_part}

module _ (n : ℕ) (marks : List ℕ) (t : Rows) where
  abbrev count : ℕ
  count = length marks

  abbrev text : List ℕ
  text = record_with n marks t

  parts : text ≡ marks ++ (rows_text n t ++ trailer n count)
  unfolding record_with
  parts = append_assoc marks (rows_text n t) (trailer n count)

  pub marks_are : take count text ≡ marks
  marks_are = ap (take count) parts ∙ take_at marks (rows_text n t ++ trailer n count) count refl

  pub row_is : (i : ℕ) → i < n + n → take (n + 1) (drop (count + i * (n + 1)) text) ≡ row_text n (numbered n t i)
  row_is i l =
      ap (λ s. take (n + 1) (drop (count + i * (n + 1)) s)) parts ∙ ap (take (n + 1)) (drop-append-add marks (rows_text n t ++ trailer n count) (i * (n + 1)))
      ∙ ap (λ s. take (n + 1) (drop (i * (n + 1)) (s ++ trailer n count))) (sym (rows_numbered n t))
      ∙ block (λ i. row_text n (numbered n t i)) (n + 1) (n + n) i (trailer n count) (λ i. length-row_text n (numbered n t i)) l

  pub mark_byte : (k : ℕ) → k < count → get_or text k 0 ≡ get_or marks k 0
  mark_byte k l = ap (λ s. get_or s k 0) parts ∙ get_or-append marks (rows_text n t ++ trailer n count) 0 k l

  pub row_byte : (k : ℕ) → count ≤ k → k < count + 2 * (n * (n + 1)) → get_or text k 0 ≡ get_or (row_text n (numbered n t ((k - count) / (n + 1)))) ((k - count) % (n + 1)) 0
  row_byte k h l =
      let i = (k - count) / (n + 1) in
      let p = (k - count) % (n + 1) in
      let at : k ≡ count + i * (n + 1) + p = omega (arith, div-add-mod' (k - count) (n + 1)) in
      ap (λ m. get_or text m 0) at ∙ sym (byte_of_part text (n + 1) (count + i * (n + 1)) p (mod-lt (k - count) (omega arith)))
      ∙ ap (λ s. get_or s p 0) (row_is i (row_of_place n (k - count) (omega arith)))

  pub trailer_byte : (k : ℕ) → count + 2 * (n * (n + 1)) ≤ k → get_or text k 0 ≡ get_or (trailer n count) (k - (count + 2 * (n * (n + 1)))) 0
  unfolding record_with
  trailer_byte k h =
      let q = k - (count + 2 * (n * (n + 1))) in
      let at : k ≡ length (marks ++ rows_text n t) + q = omega (arith, length-append marks (rows_text n t), length-rows_text n t) in
      ap (λ m. get_or text m 0) at ∙ get_or-append-add (marks ++ rows_text n t) (trailer n count) q 0
