-- From the walk to the probability: what the text and the characters come to, where it came to the end and where it stopped. Assumes nothing.
use mathlib.Core.Bool.{Bool}
use mathlib.Core.List.{List, ◌++◌, map}
use mathlib.Core.Path.{◌≡◌, refl, sym, ◌∙◌, ap}
use Prim.Native.Nat.{ℕ, ◌+◌, ◌-◌}
use native.Mathlib.Omega.{arith}
use lib.ListN.{drop}
use Rattle.limits.specs.Limits.{most_operations}
use Rattle.answers.specs.Verdict.{Verdict, accepted, refused, then}
use Rattle.clifford.specs.declared.Op.{Op}
use Rattle.clifford.specs.Tableau.{start}
use Rattle.clifford.specs.Run.{coin}
use Rattle.circuit.specs.Text.{Circuit, meaning, operations, count_measured}
use Rattle.checking.specs.Parts.Promises.{added, Headed}
use Rattle.checking.proofs.Counting.{then_then}
use Rattle.checking.proofs.Meant.{meaning_read}
use Rattle.walking.specs.Parts.Walk.{lines_of}
use Rattle.walking.proofs.Counting.{counted_both}
use Rattle.readouts.specs.Readouts.{Weighed, possible, impossible, weigh, weigh_circuit}
use Rattle.weighing.specs.declared.Passed.{Passed}
use Rattle.weighing.specs.Parts.Heard.{WeighsAll, WeighsPart}
use Rattle.probability.specs.Probability.{value_of, well_stated, told_limit, probability_of}
use Rattle.probability.proofs.Characters.{later_counts, coins_are_values}
use Rattle.probability.proofs.Telling.{halt_at}

-- what the characters come to beside an accepted circuit
abbrev judged : List ℕ → Circuit → Verdict Weighed
judged stated c = well_stated stated (count_measured c.ops) (told_limit (weigh_circuit c (map value_of stated)))

-- where the text is refused
pub not_read : (text stated : List ℕ) (number place : ℕ) → meaning text ≡ refused number place → probability_of text stated ≡ refused number place
unfolding probability_of
not_read text stated number place e = ap (λ (v : Verdict Circuit). then v (judged stated)) e

-- a text with its line 1 read
module _ (text stated : List ℕ) (n body : ℕ) (h : Headed text n body) where
  circuit_of : List Op → Circuit
  circuit_of ops = record { qubits = n; ops = ops }

  met : (v : Verdict (List Op)) → operations n most_operations 2 (drop body text) ≡ v → probability_of text stated ≡ then v (λ ops. judged stated (circuit_of ops))
  unfolding probability_of circuit_of
  met v e =
      ap (λ (w : Verdict Circuit). then w (judged stated)) (meaning_read text (drop body text) n h.stands.reads h.some_qubits h.few_qubits)
      ∙ ap (λ (u : Verdict (List Op)). then (then u (λ ops. accepted (circuit_of ops))) (judged stated)) e
      ∙ then_then v (λ ops. accepted (circuit_of ops)) (judged stated)

  -- the characters' lowest bits serve as well as their values
  by_coins : (ops : List Op) (m : ℕ) (w : Weighed) → m ≡ count_measured ops → weigh n 2 ops (start n) (map coin stated) 0 ≡ w
      → well_stated stated m (told_limit w) ≡ judged stated (circuit_of ops)
  unfolding circuit_of
  by_coins ops m w k e =
      ap (λ (j : ℕ). well_stated stated j (told_limit w)) k
      ∙ later_counts stated (count_measured ops) (told_limit w) (told_limit (weigh n 2 ops (start n) (map value_of stated) 0))
      (λ g. ap told_limit (sym e ∙ ap (λ (l : List Bool). weigh n 2 ops (start n) l 0) (coins_are_values stated g)))

  -- the walk came to the end of the text
  pub all_judged : (p : Passed) → WeighsAll text body n stated p → well_stated stated p.measured (told_limit (possible p.random)) ≡ probability_of text stated
  all_judged p w = by_coins (lines_of n body text) p.measured (possible p.random) w.measured_is w.is ∙ sym (met (accepted (lines_of n body text)) w.lines)

  -- it stopped at the line there
  pub part_judged : (at done : ℕ) (p : Passed) → WeighsPart text body n stated at done p → halt_at text stated n at done p.measured ≡ probability_of text stated
  part_judged at done p w = go (operations n (most_operations - done) (done + 2) (drop at text)) w.against ∙ sym (met _ w.left)
    where
      go : (v : Verdict (List Op)) → ((ops : List Op) → v ≡ accepted ops → weigh n 2 (w.before ++ ops) (start n) (map coin stated) 0 ≡ impossible (done + 2))
          → then (then v (λ ops. accepted (added done p.measured ops))) (λ c. well_stated stated c.measured (accepted (impossible (done + 2))))
          ≡ then (then v (λ ops. accepted (w.before ++ ops))) (λ ops. judged stated (circuit_of ops))
      go (accepted ops) f =
          by_coins (w.before ++ ops) (p.measured + count_measured ops) (impossible (done + 2)) (omega (arith, w.measured_is, counted_both w.before ops)) (f ops refl)
      go (refused number place) f = refl
