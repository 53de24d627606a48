-- A record that is written, after any bytes, reads back as the outcome characters and the rows that were written. Assumes nothing.
use mathlib.Core.Path.{◌≡◌, refl, sym, ◌∙◌, ap}
use mathlib.Core.Bool.{Bool, true, false, not, cond}
use mathlib.Core.List.{List, ◌++◌, append_assoc}
use Rattle.std.specs.Prelude.{None}
use Prim.Native.Nat.{ℕ, ◌+◌, ◌-◌, ◌*◌, ◌/◌, ◌%◌, ◌^◌, ◌≤◌, ◌<◌}
use native.Mathlib.Nat.{mod-lt}
use native.Mathlib.Omega.{arith}
use lib.Dec.{ltb}
use lib.ListN.{length, get_or, take, drop, length-append}
use lib.Seq.{drop_at}
use borrow.Author.Tests.{ltb-true, ltb-false}
use Rattle.answers.specs.Verdict.{accepted, unless_at}
use Rattle.answers.proofs.First.{lowest_none}
use Rattle.pauli.specs.Letters.{I}
use Rattle.pauli.specs.Rows.{Row}
use Rattle.pauli.specs.Texts.{row_text, fits_at, spelled}
use Rattle.clifford.specs.Tableau.{Rows, blank, numbered}
use Rattle.records.specs.Record.{low_first, rows_text, to_rows, trailer, record_with, record_length}
use Rattle.records.specs.Reading.{number_in, last_twelve, first_distance, second_distance, qubits_in, last_record, outcome_count, outcome_part, is_mark, byte_fits, first_bad, row_in, rows_in, first_wrong, reading, read_of}
use Rattle.records.proofs.Lengths.{length-trailer, length-record, square_below}
use Rattle.records.proofs.Numbers.{number_low}
use Rattle.records.proofs.RowTexts.{text_fits, spelled_text}
use Rattle.clifford.proofs.Partners.{numbered_low, numbered_high}
use Rattle.records.proofs.Pairs.{paired_none}
use Rattle.records.proofs.Held.{Tidy, Held}
use Rattle.records.proofs.Ending.{Ending, sealed_by, read_ended}
use Rattle.records.proofs.Taken.{taken_as}
use Rattle.records.proofs.Bytes.{marks_are, row_is, mark_byte, row_byte}

module _ (n : ℕ) (marks : List ℕ) (t : Rows) (held : Held n marks t) where
  abbrev count : ℕ
  count = length marks

  abbrev text : List ℕ
  text = record_with n marks t

  -- ---- the trailer

  below : to_rows n + count < 256 ^ 4
  below = omega (arith, square_below n held.most, held.few)

  first_told : number_in (take 4 (trailer n count)) ≡ to_rows n
  unfolding trailer low_first
  first_told = number_low 4 (to_rows n) (omega (arith, below))

  second_told : number_in (take 4 (drop 4 (trailer n count))) ≡ to_rows n + count
  unfolding trailer low_first
  second_told = number_low 4 (to_rows n + count) below

  qubits_told : number_in (take 2 (drop 8 (trailer n count))) ≡ n
  unfolding trailer low_first
  qubits_told = number_low 2 n (omega (arith, held.most))

  seal_told : sealed_by (trailer n count) ≡ true
  unfolding trailer low_first
  seal_told = refl

  module _ (before : List ℕ) where
    abbrev all : List ℕ
    all = before ++ text

    longer : length all ≡ length before + record_length n count
    longer = length-append before text ∙ ap (λ k. length before + k) (length-record n marks t)

    twelve : last_twelve all ≡ trailer n count
    unfolding record_with
    twelve =
        let body = before ++ (marks ++ rows_text n t) in
        ap (λ s. drop (length s - 12) s) (sym (append_assoc before (marks ++ rows_text n t) (trailer n count)))
        ∙ drop_at body (trailer n count) (length (body ++ trailer n count) - 12) (omega (arith, length-append body (trailer n count), length-trailer n count))

    first_is : first_distance all ≡ to_rows n
    first_is = ap (λ w. number_in (take 4 w)) twelve ∙ first_told

    second_is : second_distance all ≡ to_rows n + count
    second_is = ap (λ w. number_in (take 4 (drop 4 w))) twelve ∙ second_told

    qubits_is : qubits_in all ≡ n
    qubits_is = ap (λ w. number_in (take 2 (drop 8 w))) twelve ∙ qubits_told

    count_is : outcome_count all ≡ count
    count_is = omega (arith, first_is, second_is)

    ends : Ending all
    ends = record {
      long = omega (arith, longer);
      sealed = ap sealed_by twelve ∙ seal_told;
      least = omega (arith, qubits_is, held.least);
      most = omega (arith, qubits_is, held.most);
      first = first_is ∙ ap to_rows (sym qubits_is);
      above = omega (arith, first_is, second_is);
      few = omega (arith, first_is, second_is, held.few);
      within = omega (arith, second_is, longer);
    }

    last_is : last_record all ≡ text
    unfolding last_record
    last_is = drop_at before text (length all - second_distance all) (omega (arith, second_is, longer))

  -- ---- the rest of the record

  fits : (k : ℕ) → k < count + 2 * (n * (n + 1)) → byte_fits n count k (get_or text k 0) ≡ true
  fits k l = go (ltb k count) refl
    where
      go : (b : Bool) → ltb k count ≡ b → cond b (is_mark (get_or text k 0)) (fits_at ((k - count) % (n + 1)) (get_or text k 0)) ≡ true
      go true e = let h = ltb-true k count e in ap is_mark (mark_byte n marks t k h) ∙ held.marked k h
      go false e =
          let h = ltb-false k count e in
          let p = (k - count) % (n + 1) in
          ap (fits_at p) (row_byte n marks t k h l) ∙ text_fits n (numbered n t ((k - count) / (n + 1))) p (mod-lt (k - count) (omega arith))

  none_bad : first_bad n count text ≡ None
  unfolding first_bad
  none_bad = lowest_none _ (count + 2 * (n * (n + 1))) (λ k l. ap not (fits k l))

  row_spelled : (i : ℕ) (r : Row) → i < n + n → numbered n t i ≡ r → ((j : ℕ) → n ≤ j → r.letters j ≡ I) → row_in n count text i ≡ r
  unfolding row_in
  row_spelled i r l e h = ap spelled (row_is n marks t i l ∙ ap (row_text n) e) ∙ spelled_text n r h

  -- the first n rows, and blank ones behind them
  tidied : (f g : ℕ → Row) → Tidy n f → ((i : ℕ) → i < n → g i ≡ f i) → (i : ℕ) → cond (ltb i n) (g i) blank ≡ f i
  tidied f g c h i = go (ltb i n) refl
    where
      go : (b : Bool) → ltb i n ≡ b → cond b (g i) blank ≡ f i
      go true e = h i (ltb-true i n e)
      go false e = sym (c.blanks i (ltb-false i n e))

  rows_are : rows_in n count text ≡ t
  unfolding rows_in
  rows_are =
      let d = held.clean.destabilizers in
      let s = held.clean.stabilizers in
      λ k. record {
        destabilizer = λ i. tidied t.destabilizer (row_in n count text) d (λ i l. row_spelled i (t.destabilizer i) (omega arith) (numbered_low n t i l) (d.letters i)) i k;
        stabilizer = λ i. tidied t.stabilizer (λ i. row_in n count text (n + i)) s (λ i l. row_spelled (n + i) (t.stabilizer i) (omega arith) (numbered_high n t i) (s.letters i)) i k;
      }

  reads : reading n count text ≡ accepted (record { qubits = n; size = record_length n count; marks = marks; rows = t })
  reads =
      let size : to_rows n + count ≡ record_length n count = omega arith in
      ap (λ o. unless_at 10 o (unless_at 11 (first_wrong n (rows_in n count text)) (accepted (taken_as n count text)))) none_bad
      ∙ (λ k. unless_at 11 (first_wrong n (rows_are k)) (accepted (record { qubits = n; size = size k; marks = marks_are n marks t k; rows = rows_are k })))
      ∙ ap (λ o. unless_at 11 o (accepted (record { qubits = n; size = record_length n count; marks = marks; rows = t }))) (paired_none n t held.paired)

  pub written_reads : (before : List ℕ) → read_of (before ++ text) ≡ accepted (record { qubits = n; size = record_length n count; marks = marks; rows = t })
  written_reads before = read_ended (all before) (ends before) ∙ (λ k. reading (qubits_is before k) (count_is before k) (last_is before k)) ∙ reads

  -- its outcome characters, found by its trailer
  pub outcomes_written : (before : List ℕ) → outcome_part (before ++ text) ≡ marks
  outcomes_written before = (λ k. take (count_is before k) (last_is before k)) ∙ marks_are n marks t
