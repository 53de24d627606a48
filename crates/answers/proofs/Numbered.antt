-- Which numbers a refusal may have: none is 0, so 0 tells that a call was accepted; and 8 is never given where the answer always fits. Assumes nothing.
use mathlib.Core.Path.{◌≡◌, refl, ap}
use mathlib.Core.Bool.{Bool, true, false}
use mathlib.Core.List.{List}
use Rattle.std.specs.Prelude.{Option, None, Some}
use Prim.Native.Nat.{ℕ, ◌≤◌}
use native.Mathlib.Omega.{arith}
use lib.Dec.{leb}
use lib.ListN.{length}
use borrow.Author.Tests.{le-leb}
use Rattle.answers.specs.Verdict.{Verdict, accepted, refused, then, unless, unless_at, within}

-- if it is a refusal, its number is one of these
abbrev pub RefusedBy : {A : Type 0} → (ℕ → Type 0) → Verdict A → Type 0
RefusedBy P (accepted a) = Unit {0}
RefusedBy P (refused number place) = P number

module _ (P : ℕ → Type 0) where
  pub by_then : {A B : Type 0} (v : Verdict A) (f : A → Verdict B) → RefusedBy P v → ((a : A) → RefusedBy P (f a)) → RefusedBy P (then v f)
  by_then (accepted a) f h g = g a
  by_then (refused number place) f h g = h

  pub by_unless : {A : Type 0} (b : Bool) (number place : ℕ) (v : Verdict A) → P number → RefusedBy P v → RefusedBy P (unless b number place v)
  by_unless true number place v h g = g
  by_unless false number place v h g = h

  pub by_unless_at : {A : Type 0} (number : ℕ) (o : Option ℕ) (v : Verdict A) → P number → RefusedBy P v → RefusedBy P (unless_at number o v)
  by_unless_at number None v h g = g
  by_unless_at number (Some place) v h g = h

-- numbers among these are numbers among those
pub by_more : {A : Type 0} (P Q : ℕ → Type 0) → ((m : ℕ) → P m → Q m) → (v : Verdict A) → RefusedBy P v → RefusedBy Q v
by_more P Q h (accepted a) x = tt
by_more P Q h (refused number place) x = h number x

-- any number but 8
abbrev pub Not8 : ℕ → Type 0
Not8 m = m ≡ 8 → ⊥

pub not_accepted : {A : Type 0} (number place : ℕ) (a : A) → refused number place ≡ accepted a → ⊥
not_accepted number place a e = let z : ◌≡◌ {A = ℕ} 0 1 = cc in omega arith

-- a number that is not among them is never given
pub never_given : {A : Type 0} (P : ℕ → Type 0) (v : Verdict A) → RefusedBy P v → (number place : ℕ) → (P number → ⊥) → v ≡ refused number place → ⊥
never_given P v h number place n e = n (rw e at h)

-- 8 is never given where it is not given before and the answer fits
pub room_enough : (v : Verdict (List ℕ)) (room : ℕ) → RefusedBy Not8 v → ((bytes : List ℕ) → v ≡ accepted bytes → length bytes ≤ room) → (place : ℕ) → then v (within room) ≡ refused 8 place → ⊥
room_enough (accepted bytes) room h g place e =
    let q : leb (length bytes) room ≡ true = le-leb (length bytes) room (g bytes refl) in
    let w : within room bytes ≡ accepted bytes = ap (λ b. unless b 8 0 (accepted bytes)) q in
    let z : ◌≡◌ {A = ℕ} 0 1 = cc in
    omega arith
room_enough (refused number place) room h g p e = h (let z : number ≡ 8 = cc in z)
