-- A record that has no bad byte: its outcome characters are listed, and its row texts are those of the rows that it spells. Assumes nothing.
use mathlib.Core.Path.{◌≡◌, refl, sym, ◌∙◌, ap}
use mathlib.Core.Bool.{Bool, true, false, not, cond}
use mathlib.Core.List.{List}
use Rattle.std.specs.Prelude.{None}
use Prim.Native.Nat.{ℕ, ◌+◌, ◌-◌, ◌*◌, ◌%◌, ◌≤◌, ◌<◌}
use native.Mathlib.Decide.{dec_lt}
use native.Mathlib.Omega.{arith}
use lib.Dec.{ltb}
use lib.ListN.{length, get_or, take, drop, length-drop}
use lib.Seq.{length-take-le, drop-drop, get_or-take}
use borrow.Author.Tests.{lt-ltb, le-ltb, ltb-true, not-false}
use Rattle.pauli.specs.Letters.{I}
use Rattle.pauli.specs.Texts.{row_text, fits_at}
use Rattle.pauli.proofs.Listed.{listed_ext}
use Rattle.clifford.specs.Tableau.{blank, numbered}
use Rattle.records.specs.Record.{joined, rows_text}
use Rattle.records.specs.Reading.{is_mark, byte_fits, first_bad, row_in, rows_in}
use Rattle.records.proofs.Joined.{blocks}
use Rattle.records.proofs.RowTexts.{text_spelled, spelled_end}
use Rattle.answers.proofs.First.{none_passes}
use Rattle.records.proofs.Outcomes.{Marks}
use Rattle.records.proofs.Held.{Tidy}
use Rattle.records.proofs.Places.{rows_numbered, all_rows, row_within, place_of_row, byte_of_part}

module _ (n count : ℕ) (r : List ℕ) (long : count + 2 * (n * (n + 1)) ≤ length r) (bad : first_bad n count r ≡ None) where
  abbrev part : ℕ → List ℕ
  part i = take (n + 1) (drop (count + i * (n + 1)) r)

  fits : (k : ℕ) → k < count + 2 * (n * (n + 1)) → byte_fits n count k (get_or r k 0) ≡ true
  unfolding first_bad
  fits k l = not-false (byte_fits n count k (get_or r k 0)) (none_passes (λ k. not (byte_fits n count k (get_or r k 0))) (count + 2 * (n * (n + 1))) bad k l)

  pub marks_fit : Marks (take count r)
  marks_fit i l =
      let h : i < count = omega (arith, length-take-le count r (omega arith)) in
      ap is_mark (get_or-take count r i 0 h) ∙ ap (λ b. cond b (is_mark (get_or r i 0)) (fits_at ((i - count) % (n + 1)) (get_or r i 0))) (sym (lt-ltb i count h)) ∙ fits i (omega arith)

  part_long : (i : ℕ) → i < n + n → length (part i) ≡ n + 1
  part_long i l = length-take-le (n + 1) (drop (count + i * (n + 1)) r) (omega (arith, length-drop (count + i * (n + 1)) r, row_within n i l))

  part_fits : (i e : ℕ) → i < n + n → e < n + 1 → fits_at e (get_or (part i) e 0) ≡ true
  part_fits i e l h =
      let k = count + i * (n + 1) + e in
      let p : (k - count) % (n + 1) ≡ e = ap (λ m. m % (n + 1)) (minus (i * (n + 1))) ∙ place_of_row n i e h in
      ap (fits_at e) (byte_of_part r (n + 1) (count + i * (n + 1)) e h)
      ∙ ap (λ m. fits_at m (get_or r k 0)) (sym p)
      ∙ ap (λ b. cond b (is_mark (get_or r k 0)) (fits_at ((k - count) % (n + 1)) (get_or r k 0))) (sym (le-ltb k count (omega arith)))
      ∙ fits k (omega (arith, row_within n i l))
    where
      minus : (m : ℕ) → count + m + e - count ≡ m + e
      minus m = omega arith

  numbered_row : (i : ℕ) → i < n + n → numbered n (rows_in n count r) i ≡ row_in n count r i
  unfolding rows_in
  numbered_row i l = go (dec_lt i n)
    where
      go : Dec (i < n) → numbered n (rows_in n count r) i ≡ row_in n count r i
      go (yes h) = rw (lt-ltb i n h)
      go (no h) =
          let e : n + (i - n) ≡ i = omega arith in
          rw (le-ltb i n (omega arith), lt-ltb (i - n) n (omega arith), e)

  row_again : (i : ℕ) → i < n + n → row_text n (numbered n (rows_in n count r) i) ≡ take (n + 1) (drop (i * (n + 1)) (drop count r))
  unfolding row_in
  row_again i l =
      ap (row_text n) (numbered_row i l) ∙ text_spelled n (part i) (part_long i l) (λ e h. part_fits i e l h) ∙ ap (take (n + 1)) (sym (drop-drop (i * (n + 1)) count r))

  pub rows_again : rows_text n (rows_in n count r) ≡ take (2 * (n * (n + 1))) (drop count r)
  rows_again =
      sym (rows_numbered n (rows_in n count r))
      ∙ ap joined (listed_ext (λ i. row_text n (numbered n (rows_in n count r) i)) (λ i. take (n + 1) (drop (i * (n + 1)) (drop count r))) (n + n) row_again)
      ∙ blocks (drop count r) (n + 1) (n + n) ∙ ap (λ m. take m (drop count r)) (all_rows n)

  pub tidy : (g : ℕ → ℕ) → ((i : ℕ) → i < n → g i < n + n) → Tidy n (λ i. cond (ltb i n) (row_in n count r (g i)) blank)
  unfolding row_in
  tidy g h = record {
    letters = λ i j l. go i j l (ltb i n) refl;
    blanks = λ i l. ap (λ b. cond b (row_in n count r (g i)) blank) (le-ltb i n l);
  }
    where
      go : (i j : ℕ) → n ≤ j → (b : Bool) → ltb i n ≡ b → (cond b (row_in n count r (g i)) blank).letters j ≡ I
      go i j l true e = spelled_end n (part (g i)) j (part_long (g i) (h i (ltb-true i n e))) l
      go i j l false e = refl
