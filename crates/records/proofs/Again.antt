-- What is accepted is what a record holds, and is written again as the same bytes. Assumes nothing.
use mathlib.Core.Path.{◌≡◌, refl, sym, ◌∙◌, ap, ap₂, subst}
use mathlib.Core.List.{List, ◌++◌}
use Rattle.std.specs.Prelude.{None}
use Prim.Native.Nat.{ℕ, ◌+◌, ◌-◌, ◌*◌, ◌≤◌}
use native.Mathlib.Omega.{arith}
use lib.ListN.{length, take, drop, take-append-drop, length-drop}
use lib.Seq.{length-take-le, take-add, drop-drop}
use Rattle.answers.specs.Verdict.{accepted}
use Rattle.records.specs.Record.{to_rows, trailer, record_with, record_length}
use Rattle.records.specs.Reading.{last_twelve, second_distance, qubits_in, last_record, outcome_count, first_bad, rows_in, first_wrong, Read, read_of}
use Rattle.records.proofs.Numbers.{Bytes, bytes_drop}
use Rattle.records.proofs.Pairs.{none_paired}
use Rattle.records.proofs.Held.{Held}
use Rattle.records.proofs.Ending.{Ending, length_last}
use Rattle.records.proofs.Taken.{Taken, taken}
use Rattle.records.proofs.Spelled.{marks_fit, rows_again, tidy}
use Rattle.records.proofs.Trailer.{trailer_again}

-- bytes that end in a record with no bad byte
module _ (s : List ℕ) (e : Ending s) (bad : first_bad (qubits_in s) (outcome_count s) (last_record s) ≡ None) where
  abbrev n : ℕ
  n = qubits_in s

  abbrev count : ℕ
  count = outcome_count s

  abbrev last : List ℕ
  last = last_record s

  second_is : second_distance s ≡ to_rows n + count
  second_is = omega (arith, e.first, e.above)

  length-is : length last ≡ to_rows n + count
  length-is = length_last s e ∙ second_is

  long : count + 2 * (n * (n + 1)) ≤ length last
  long = omega (arith, length-is)

  count_is : length (take count last) ≡ count
  count_is = length-take-le count last (omega (arith, length-is))

  holds : first_wrong n (rows_in n count last) ≡ None → Held n (take count last) (rows_in n count last)
  unfolding rows_in
  holds pairs = record {
    least = e.least;
    most = e.most;
    few = omega (arith, count_is, e.few, e.above);
    marked = marks_fit n count last long bad;
    paired = none_paired n (rows_in n count last) pairs;
    clean = record { destabilizers = tidy n count last long bad (λ i. i) (λ i l. omega arith); stabilizers = tidy n count last long bad (λ i. n + i) (λ i l. omega arith) };
  }

  ends_same : drop (count + 2 * (n * (n + 1))) last ≡ last_twelve s
  unfolding last_record
  ends_same =
      let k : length s - second_distance s + (count + 2 * (n * (n + 1))) ≡ length s - 12 = omega (arith, second_is, e.within) in
      drop-drop (count + 2 * (n * (n + 1))) (length s - second_distance s) s ∙ ap (λ m. drop m s) k

  again : Bytes s → last ≡ record_with n (take count last) (rows_in n count last)
  unfolding record_with
  again bytes =
      let rows = 2 * (n * (n + 1)) in
      let w : last_twelve s ≡ trailer n count =
      trailer_again (last_twelve s) n count (length-drop (length s - 12) s ∙ omega (arith, e.long)) (bytes_drop (length s - 12) s bytes) e.first second_is refl e.sealed in
      sym (take-append-drop (count + rows) last)
      ∙ ap₂ ◌++◌ (take-add count rows last ∙ ap (λ x. take count last ++ x) (sym (rows_again n count last long bad))) (ends_same ∙ w ∙ ap (trailer n) (sym count_is))

module _ (s : List ℕ) (r : Read) (e : read_of s ≡ accepted r) where
  told : Taken s r
  told = taken s r e

  -- what is read is what a record holds: its rows are properly paired, and clean
  pub read_held : Held r.qubits r.marks r.rows
  read_held = subst (λ x. Held x.qubits x.marks x.rows) told.is (holds s told.ending told.fits told.pairs)

  pub read_size : r.size ≡ record_length r.qubits (length r.marks)
  read_size = subst (λ x. x.size ≡ record_length x.qubits (length x.marks)) told.is (omega (arith, count_is s told.ending told.fits))

  -- what is accepted is written again as the same bytes
  pub read_writes : Bytes s → last_record s ≡ record_with r.qubits r.marks r.rows
  read_writes bytes = again s told.ending told.fits bytes ∙ ap (λ x. record_with x.qubits x.marks x.rows) told.is

  pub read_inside : r.size ≤ length s
  read_inside =
      let size : second_distance s ≡ r.size = second_is s told.ending told.fits ∙ ap (λ x. x.size) told.is in
      omega (arith, size, told.ending.within)

  pub read_whole : Bytes s → s ≡ take (length s - r.size) s ++ record_with r.qubits r.marks r.rows
  unfolding last_record
  read_whole bytes =
      let size : second_distance s ≡ r.size = second_is s told.ending told.fits ∙ ap (λ x. x.size) told.is in
      sym (take-append-drop (length s - second_distance s) s) ∙ ap₂ (λ k l. take (length s - k) s ++ l) size (read_writes bytes)
