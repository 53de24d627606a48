-- The probability of a stated readout: document 02, request h, order of refusals 1 to 6, then 15, then 10, then 14. Assumes nothing.
use Rattle.std.specs.Prelude.{Bool, ◌||◌, not, List, map, ◌≡◌, ℕ, eqb, leb, length, get_or}
use Rattle.std.specs.Prelude.{Option, Result, Ok, Err}
use Rattle.limits.specs.Limits.{most_halvings}
use Rattle.answers.specs.First.{lowest}
use Rattle.answers.specs.Verdict.{Verdict, accepted, then, unless, unless_at}
use Rattle.answers.specs.declared.Refusal.{Refusal}
use Rattle.answers.specs.Refusals.{told}
use Rattle.circuit.specs.Text.{meaning, count_measured}
use Rattle.half.specs.Half.{Halved}
use Rattle.readouts.specs.Readouts.{Weighed, possible, impossible, weigh_circuit}
use Rattle.probability.specs.declared.Chance.{Chance}
use Rattle.probability.specs.declared.Chance.TheVariants as chance

-- `0` or `1`
abbrev pub is_value : ℕ → Bool
is_value b = eqb b 48 || eqb b 49

-- `1` states the value 1
abbrev pub value_of : ℕ → Bool
value_of b = eqb b 49

-- the place of the first other character
abbrev pub first_other : List ℕ → Option ℕ
first_other stated = lowest (λ i. not (is_value (get_or stated i 0))) (length stated)

-- 15 unless there is one character per measurement, then 10 for another character
abbrev pub well_stated : List ℕ → ℕ → Verdict Weighed → Verdict Weighed
well_stated stated measured v = unless (eqb (length stated) measured) 15 0 (unless_at 10 (first_other stated) v)

-- then 14 when it is possible and k exceeds 1,022
abbrev pub told_limit : Weighed → Verdict Weighed
told_limit (possible k) = unless (leb k most_halvings) 14 0 (accepted (possible k))
told_limit (impossible line) = accepted (impossible line)

-- 1 to 6 as the check gives them, and then these; the stated values serve as coins
unfoldable pub probability_of : List ℕ → List ℕ → Verdict Weighed
probability_of text stated = then (meaning text) (λ c. well_stated stated (count_measured c.ops) (told_limit (weigh_circuit c (map value_of stated))))

abbrev pub weighed_of : Chance → Weighed
weighed_of (chance.Possible l) = possible l.k
weighed_of (chance.Impossible line) = impossible line

abbrev pub told_chance : Result Chance Refusal → Verdict Weighed
told_chance r = then (told r) (λ c. accepted (weighed_of c))

-- where it is possible, the answer's double is one half to the power of its k
abbrev pub DoubleOf : Result Chance Refusal → Type 0
DoubleOf (Ok (chance.Possible l)) = Halved l.k l.probability
DoubleOf (Ok (chance.Impossible line)) = Unit {0}
DoubleOf (Err r) = Unit {0}

-- the answer tells this verdict, with the double of its k
pub record Tells (v : Verdict Weighed) (r : Result Chance Refusal) : Type 0 where
  pub told : told_chance r ≡ v
  pub double : DoubleOf r
