-- What the answer tells: the limit on k, the characters, and a pass over the lines behind the walk. Assumes nothing.
use mathlib.Core.Bool.{Bool}
use mathlib.Core.List.{List}
use mathlib.Core.Path.{◌≡◌, sym, ◌∙◌, ap}
use Prim.Native.Nat.{ℕ, ◌+◌, ◌-◌, ◌≤◌, ◌<◌}
use lib.ListN.{drop}
use borrow.Author.Tests.{le-leb, lt-leb}
use Rattle.limits.specs.Limits.{most_operations, most_halvings}
use Rattle.answers.specs.Verdict.{Verdict, accepted, refused, then, unless}
use Rattle.answers.specs.Refusals.{number_of, place_of}
use Rattle.answers.specs.declared.Refusal.{Refusal}
use Rattle.answers.specs.declared.Refusal.TheVariants.{TooUnlikely}
use Rattle.circuit.specs.Text.{operations}
use Rattle.checking.specs.declared.Counts.{Counts}
use Rattle.checking.specs.Parts.Promises.{added}
use Rattle.half.specs.declared.Likelihood.{Likelihood}
use Rattle.half.specs.Tied.{Tied}
use Rattle.readouts.specs.Readouts.{Weighed, possible, impossible}
use Rattle.probability.specs.declared.Chance.{Chance}
use Rattle.std.specs.Prelude.{Result, Ok, Err, Some}
use Rattle.probability.specs.declared.Chance.TheVariants as chance
use Rattle.probability.specs.Probability.{well_stated, told_limit, Tells}
use Rattle.probability.specs.Parts.Stating.{weighed_as}

-- what tells one verdict tells an equal one
pub retold : (r : Result Chance Refusal) (v w : Verdict Weighed) → v ≡ w → Tells v r → Tells w r
retold r v w e t = record { told = t.told ∙ e; double = t.double }

pub tells_refusal : (r : Refusal) (v : Verdict Weighed) → v ≡ refused (number_of r) (place_of r) → Tells v (Err r)
tells_refusal r v e = record { told = sym e; double = tt }

-- 14, or k with its double
pub too_unlikely : (k : ℕ) → most_halvings < k → Tells (told_limit (possible k)) (Err TooUnlikely)
too_unlikely k h = tells_refusal TooUnlikely (told_limit (possible k)) (ap (λ (b : Bool). unless b 14 0 (accepted (possible k))) (lt-leb k most_halvings h))

pub likely : (k : ℕ) (l : Likelihood) → k ≤ most_halvings → Tied k l → Tells (told_limit (possible k)) (Ok (chance.Possible l))
likely k l h t = record {
  told = ap (λ (j : ℕ). accepted (possible j)) t.same ∙ sym (ap (λ (b : Bool). unless b 14 0 (accepted (possible k))) (le-leb k most_halvings h));
  double = t.halved;
}

-- the lines from a position on, behind so many operations and measurements
abbrev pub counts_from : List ℕ → ℕ → ℕ → ℕ → ℕ → Verdict Counts
counts_from text n at done measured = then (operations n (most_operations - done) (done + 2) (drop at text)) (λ ops. accepted (added done measured ops))

-- what is told where the walk stopped there: they are refused, or the characters are, or the readout is impossible
abbrev pub halt_at : List ℕ → List ℕ → ℕ → ℕ → ℕ → ℕ → Verdict Weighed
halt_at text stated n at done measured = then (counts_from text n at done measured) (λ c. well_stated stated c.measured (accepted (impossible (done + 2))))

module _ (text stated : List ℕ) (n at done measured : ℕ) where
  halt_of : Verdict Counts → Verdict Weighed
  halt_of v = then v (λ c. well_stated stated c.measured (accepted (impossible (done + 2))))

  pub halt_judged : (count all random : ℕ) (r : Result Chance Refusal) → accepted (record { operations = count; measured = all }) ≡ counts_from text n at done measured
      → Tells (well_stated stated all (told_limit (weighed_as random (Some (done + 2))))) r → Tells (halt_at text stated n at done measured) r
  unfolding halt_of
  halt_judged count all random r e t = retold r (well_stated stated all (told_limit (weighed_as random (Some (done + 2))))) (halt_at text stated n at done measured) (ap halt_of e) t

  pub halt_unread : (r : Refusal) → refused (number_of r) (place_of r) ≡ counts_from text n at done measured → Tells (halt_at text stated n at done measured) (Err r)
  unfolding halt_of
  halt_unread r e = tells_refusal r (halt_at text stated n at done measured) (sym (ap halt_of e))
