-- What is accepted is one value, and every check before it has passed. Assumes nothing.
use mathlib.Core.Path.{◌≡◌, refl}
use mathlib.Core.Bool.{Bool, true, false}
use Rattle.std.specs.Prelude.{Option, None, Some}
use Prim.Native.Nat.{ℕ}
use Rattle.answers.specs.Verdict.{Verdict, accepted, refused, then, unless, unless_at}
use Rattle.answers.proofs.Numbered.{not_accepted}

module _ {A : Type 0} where
  pub same_accepted : (a b : A) → accepted a ≡ accepted b → a ≡ b
  same_accepted a b e = cc

  pub unless_passed : (b : Bool) (number place : ℕ) (v : Verdict A) (a : A) → unless b number place v ≡ accepted a → (b ≡ true) × (v ≡ accepted a)
  unless_passed true number place v a e = (refl, e)
  unless_passed false number place v a e = absurd (not_accepted number place a e)

  pub unless_at_passed : (number : ℕ) (o : Option ℕ) (v : Verdict A) (a : A) → unless_at number o v ≡ accepted a → (o ≡ None) × (v ≡ accepted a)
  unless_at_passed number None v a e = (refl, e)
  unless_at_passed number (Some place) v a e = absurd (not_accepted number place a e)

-- what a later step accepts, an earlier one has accepted
pub record Accepted {A B : Type 0} (v : Verdict A) (f : A → Verdict B) (b : B) : Type 0 where
  pub value : A
  pub first : v ≡ accepted value
  pub later : f value ≡ accepted b

pub then_accepted : {A B : Type 0} (v : Verdict A) (f : A → Verdict B) (b : B) → then v f ≡ accepted b → Accepted v f b
then_accepted (accepted a) f b e = record { value = a; first = refl; later = e }
then_accepted (refused number place) f b e = absurd (not_accepted number place b e)
