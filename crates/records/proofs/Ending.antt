-- Bytes that end in a record: the eight facts that the test stands for, and what is then read. Assumes nothing.
use mathlib.Core.Path.{◌≡◌, refl, sym, ◌∙◌, ap}
use mathlib.Core.Bool.{Bool, true, false, ◌&&◌, true≢false}
use mathlib.Core.List.{List}
use Prim.Native.Nat.{ℕ, ◌+◌, ◌-◌, ◌≤◌}
use native.Mathlib.Omega.{arith}
use lib.Dec.{leb, eqb}
use lib.ListN.{length, get_or, length-drop}
use borrow.Author.Tests.{leb-true, le-leb, eqb-true, eq-eqb}
use Rattle.limits.specs.Limits.{most_operations, most_qubits}
use Rattle.answers.specs.Verdict.{unless}
use Rattle.records.specs.Record.{to_rows}
use Rattle.records.specs.Reading.{last_twelve, first_distance, second_distance, qubits_in, marked, ends_in_record, last_record, outcome_count, reading, read_of}

-- the mark in twelve bytes
abbrev pub sealed_by : List ℕ → Bool
sealed_by w = eqb (get_or w 10 0) 0x53 && eqb (get_or w 11 0) 0x52

pub record Ending (s : List ℕ) : Type 0 where
  pub long : 12 ≤ length s
  pub sealed : sealed_by (last_twelve s) ≡ true
  pub least : 1 ≤ qubits_in s
  pub most : qubits_in s ≤ most_qubits
  pub first : first_distance s ≡ to_rows (qubits_in s)
  pub above : first_distance s ≤ second_distance s
  pub few : second_distance s ≤ first_distance s + most_operations
  pub within : second_distance s ≤ length s

-- eight tests that all pass
eight : (a b c d e f g h : Bool) → (a && b && c && d && e && f && g && h) ≡ true → (a ≡ true) × (b ≡ true) × (c ≡ true) × (d ≡ true) × (e ≡ true) × (f ≡ true) × (g ≡ true) × (h ≡ true)
eight true true true true true true true true t = (refl, refl, refl, refl, refl, refl, refl, refl)
eight true true true true true true true false t = absurd (true≢false (sym t))
eight true true true true true true false h t = absurd (true≢false (sym t))
eight true true true true true false g h t = absurd (true≢false (sym t))
eight true true true true false f g h t = absurd (true≢false (sym t))
eight true true true false e f g h t = absurd (true≢false (sym t))
eight true true false d e f g h t = absurd (true≢false (sym t))
eight true false c d e f g h t = absurd (true≢false (sym t))
eight false b c d e f g h t = absurd (true≢false (sym t))

all_eight : (a b c d e f g h : Bool) → a ≡ true → b ≡ true → c ≡ true → d ≡ true → e ≡ true → f ≡ true → g ≡ true → h ≡ true → (a && b && c && d && e && f && g && h) ≡ true
all_eight a b c d e f g h pa pb pc pd pe pf pg ph = rw (pa, pb, pc, pd, pe, pf, pg, ph)

module _ (s : List ℕ) where
  pub ending : ends_in_record s ≡ true → Ending s
  ending e =
      let t =
      eight (leb 12 (length s)) (marked s) (leb 1 (qubits_in s)) (leb (qubits_in s) most_qubits) (eqb (first_distance s) (to_rows (qubits_in s))) (leb (first_distance s) (second_distance s))
      (leb (second_distance s) (first_distance s + most_operations)) (leb (second_distance s) (length s)) e in
      record {
        long = leb-true _ _ t.0;
        sealed = t.1;
        least = leb-true _ _ t.2;
        most = leb-true _ _ t.3;
        first = eqb-true _ _ t.4;
        above = leb-true _ _ t.5;
        few = leb-true _ _ t.6;
        within = leb-true _ _ t.7;
      }

  ended : Ending s → ends_in_record s ≡ true
  ended e =
      all_eight (leb 12 (length s)) (marked s) (leb 1 (qubits_in s)) (leb (qubits_in s) most_qubits) (eqb (first_distance s) (to_rows (qubits_in s))) (leb (first_distance s) (second_distance s))
      (leb (second_distance s) (first_distance s + most_operations)) (leb (second_distance s) (length s))
      (le-leb 12 (length s) e.long) e.sealed (le-leb 1 (qubits_in s) e.least) (le-leb (qubits_in s) most_qubits e.most) (eq-eqb (first_distance s) (to_rows (qubits_in s)) e.first)
      (le-leb (first_distance s) (second_distance s) e.above) (le-leb (second_distance s) (first_distance s + most_operations) e.few) (le-leb (second_distance s) (length s) e.within)

  pub read_ended : Ending s → read_of s ≡ reading (qubits_in s) (outcome_count s) (last_record s)
  unfolding read_of
  read_ended e = ap (λ b. unless b 9 0 (reading (qubits_in s) (outcome_count s) (last_record s))) (ended e)

  pub length_last : Ending s → length (last_record s) ≡ second_distance s
  unfolding last_record
  length_last e = length-drop (length s - second_distance s) s ∙ omega (arith, e.within)
