-- The characters of outcomes: each is listed, and tells kind and value. Assumes nothing.
use mathlib.Core.Path.{◌≡◌, refl}
use mathlib.Core.Bool.{Bool, true, false}
use mathlib.Core.List.{List, [], ◌∷◌, map}
use Prim.Native.Nat.{ℕ, zero, suc, ◌<◌}
use native.Mathlib.Nat.{le_of_suc-le-suc}
use native.Mathlib.Omega.{arith}
use lib.ListN.{length, get_or}
use Rattle.clifford.specs.declared.Outcome.{Outcome}
use Rattle.records.specs.Record.{mark_of, mark, outcome_of}
use Rattle.records.specs.Reading.{is_mark}

-- each is one of the four characters
abbrev pub Marks : List ℕ → Type 0
Marks s = (i : ℕ) → i < length s → is_mark (get_or s i 0) ≡ true

pub mark_fits : (random value : Bool) → is_mark (mark_of random value) ≡ true
mark_fits false false = refl
mark_fits false true = refl
mark_fits true false = refl
mark_fits true true = refl

pub outcomes_marked : (outcomes : List Outcome) → Marks (map mark outcomes)
outcomes_marked [] i h = absurd (omega arith)
outcomes_marked (o ∷ os) zero h = mark_fits o.random o.value
outcomes_marked (o ∷ os) (suc i) h = outcomes_marked os i (le_of_suc-le-suc h)

pub mark_back : (random value : Bool) → outcome_of (mark_of random value) ≡ record { random = random; value = value }
mark_back false false = refl
mark_back false true = refl
mark_back true false = refl
mark_back true true = refl
