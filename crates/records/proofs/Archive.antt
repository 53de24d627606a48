-- Reading depends on nothing before the record: an archive grows without touching what it holds. Assumes nothing.
use mathlib.Core.Path.{◌≡◌, sym, ◌∙◌, ap}
use mathlib.Core.List.{List, ◌++◌}
use Prim.Native.Nat.{ℕ, ◌+◌, ◌-◌}
use native.Mathlib.Omega.{arith}
use lib.ListN.{length, take, drop, length-append}
use lib.Seq.{drop-append-add, drop-drop, drop_at}
use Rattle.answers.specs.Verdict.{accepted}
use Rattle.records.specs.Record.{to_rows}
use Rattle.records.specs.Reading.{number_in, last_twelve, first_distance, second_distance, qubits_in, last_record, reading, Read, read_of}
use Rattle.records.proofs.Ending.{Ending, sealed_by, read_ended, length_last}
use Rattle.records.proofs.Taken.{taken}

module _ (before s : List ℕ) (e : Ending s) where
  abbrev again : List ℕ
  again = before ++ last_record s

  longer : length again ≡ length before + second_distance s
  longer = length-append before (last_record s) ∙ ap (λ k. length before + k) (length_last s e)

  twelve : last_twelve again ≡ last_twelve s
  unfolding last_record
  twelve =
      let d = second_distance s in
      let a : length again - 12 ≡ length before + (d - 12) = omega (arith, longer, e.first, e.above) in
      let b : length s - d + (d - 12) ≡ length s - 12 = omega (arith, e.within, e.first, e.above) in
      ap (λ k. drop k again) a ∙ drop-append-add before (last_record s) (d - 12) ∙ drop-drop (d - 12) (length s - d) s ∙ ap (λ k. drop k s) b

  second_same : second_distance again ≡ second_distance s
  second_same = ap (λ w. number_in (take 4 (drop 4 w))) twelve

  first_same : first_distance again ≡ first_distance s
  first_same = ap (λ w. number_in (take 4 w)) twelve

  qubits_same : qubits_in again ≡ qubits_in s
  qubits_same = ap (λ w. number_in (take 2 (drop 8 w))) twelve

  ending_again : Ending again
  ending_again = record {
    long = omega (arith, longer, e.first, e.above);
    sealed = ap sealed_by twelve ∙ e.sealed;
    least = omega (arith, qubits_same, e.least);
    most = omega (arith, qubits_same, e.most);
    first = first_same ∙ e.first ∙ ap to_rows (sym qubits_same);
    above = omega (arith, first_same, second_same, e.above);
    few = omega (arith, first_same, second_same, e.few);
    within = omega (arith, second_same, longer);
  }

  last_same : last_record again ≡ last_record s
  unfolding last_record
  last_same = drop_at before (last_record s) (length again - second_distance again) (omega (arith, second_same, longer))

  -- this holds also where the record is refused, 10 or 11
  pub read_again : read_of (before ++ last_record s) ≡ read_of s
  read_again = read_ended again ending_again ∙ (λ i. reading (qubits_same i) (second_same i - first_same i) (last_same i)) ∙ sym (read_ended s e)

pub nothing_before : (before s : List ℕ) (r : Read) → read_of s ≡ accepted r → read_of (before ++ last_record s) ≡ read_of s
nothing_before before s r e = read_again before s (taken s r e).ending
