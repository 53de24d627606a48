-- The parts of a record behind one another: of the trailer, and of the whole. Assumes nothing.
use mathlib.Core.Path.{◌≡◌, refl, sym, ◌∙◌, ap, ap₂}
use mathlib.Core.List.{List, [], ◌∷◌, ◌++◌, append_assoc}
use Prim.Native.Nat.{ℕ, ◌+◌, ◌-◌, ◌*◌, ◌≤◌}
use native.Mathlib.Omega.{arith}
use lib.ListN.{length, take, drop, length-append}
use Rattle.limits.specs.Limits.{most_qubits}
use Rattle.answers.specs.Verdict.{over}
use Rattle.packing.specs.View.{rows_of}
use Rattle.records.specs.Record.{low_first, to_rows, trailer, rows_text, record_with, record_length}
use Rattle.records.proofs.Lengths.{length-trailer}
use Rattle.records.proofs.Numbers.{low_two, low_four}
use Rattle.std.specs.Int.{w16, w32, to_le_bytes}
use Rattle.writing.proofs.Placing.{placed}
use Rattle.writing.specs.Parts.Texts.{texts_from}
use borrow.Rule.Slice.PartMut.{put_mid}
use Rattle.writing.proofs.Placing.{placed_front, put_behind}
use Rattle.writing.proofs.Texts.{length-texts, texts_all}

-- the buffer old, after a part of it from this place on was written to
abbrev put_rest : List ℕ → ℕ → List ℕ → List ℕ
put_rest old at part = put_mid at (length old - at) old part

-- what was written there is this text
abbrev Put : List ℕ → ℕ → List ℕ → List ℕ → Type 0
Put old at text part = part ≡ over text (take (length old - at) (drop at old))

module _ (old a pb pc pd : List ℕ) (n count : ℕ) where
  abbrev b : List ℕ
  b = put_rest a 4 pb

  abbrev c : List ℕ
  c = put_rest b 8 pc

  pub trailer_put : (rows : ℕ) (r s t : List ℕ) → rows ≡ to_rows n → 12 ≤ length old → r ≡ to_le_bytes w32 rows → s ≡ to_le_bytes w32 (rows + count) → t ≡ to_le_bytes w16 n → a ≡ over r old → Put a 4 s pb → Put b 8 t pc → Put c 10 (0x53 ∷ 0x52 ∷ []) pd
      → put_rest c 10 pd ≡ over (trailer n count) old
  unfolding trailer low_first
  trailer_put rows r s t e h er es et ea eb ec ed =
      let first = low_first 4 rows in
      let two = first ++ low_first 4 (rows + count) in
      let all = two ++ low_first 2 n in
      let fa : a ≡ placed old 0 first = ea ∙ ap (λ x. over x old) (er ∙ low_four rows) ∙ sym (placed_front old first) in
      let fb : b ≡ placed old 0 two = put_behind old a pb first (low_first 4 (rows + count)) 4 fa refl (omega arith) (eb ∙ ap (λ x. over x (take (length a - 4) (drop 4 a))) (es ∙ low_four (rows + count))) in
      let fc : c ≡ placed old 0 all = put_behind old b pc two (low_first 2 n) 8 fb refl (omega arith) (ec ∙ ap (λ x. over x (take (length b - 8) (drop 8 b))) (et ∙ low_two n)) in
      put_behind old c pd all (0x53 ∷ 0x52 ∷ []) 10 fc refl (omega arith) ed
      ∙ ap (λ m. placed old 0 (low_first 4 m ++ low_first 4 (m + count) ++ low_first 2 n ++ (0x53 ∷ 0x52 ∷ []))) e ∙ placed_front old (trailer n count)

module _ (old a pb pc pd marks w : List ℕ) (n : ℕ) where
  abbrev count : ℕ
  count = length marks

  abbrev half : ℕ
  half = n * (n + 1)

  abbrev with_first : List ℕ
  with_first = put_rest a count pb

  abbrev with_rows : List ℕ
  with_rows = put_rest with_first (count + half) pc

  pub record_put : record_length n count ≤ length old → a ≡ over marks old → Put a count (texts_from n w 0 n) pb → Put with_first (count + half) (texts_from n w most_qubits n) pc
      → Put with_rows (count + half + half) (trailer n count) pd → put_rest with_rows (count + half + half) pd ≡ over (record_with n marks (rows_of n w)) old
  unfolding record_with rows_text
  record_put h ea eb ec ed =
      let one = texts_from n w 0 n in
      let other = texts_from n w most_qubits n in
      let l1 = length-texts n w 0 n in
      let lo = length-texts n w most_qubits n in
      let lt = length-trailer n count in
      let two = marks ++ one in
      let all = two ++ other in
      let l2 = length-append marks one in
      let l3 = length-append two other in
      let fa : a ≡ placed old 0 marks = ea ∙ sym (placed_front old marks) in
      let fb : with_first ≡ placed old 0 two = put_behind old a pb marks one count fa refl (omega arith) eb in
      let fc : with_rows ≡ placed old 0 all = put_behind old with_first pc two other (count + half) fb (omega arith) (omega arith) ec in
      put_behind old with_rows pd all (trailer n count) (count + half + half) fc (omega arith) (omega arith) ed
      ∙ placed_front old (all ++ trailer n count) ∙ ap (λ s. over (s ++ trailer n count) old) (append_assoc marks one other)
      ∙ ap₂ (λ (s t : List ℕ). over (marks ++ (s ++ t) ++ trailer n count) old) (texts_all n w 0) (texts_all n w most_qubits)
