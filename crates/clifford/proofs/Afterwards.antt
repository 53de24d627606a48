-- What follows a measurement turns signs over and leaves every letter: the outcome decides row signs only. Assumes nothing.
use mathlib.Core.Path.{◌≡◌, refl}
use mathlib.Core.Bool.{Bool, true, false, ◌&&◌, cond}
use mathlib.Core.List.{[], ◌∷◌}
use Prim.Native.Nat.{ℕ}
use lib.Dec.{eqb}
use borrow.Author.Tests.{eqb-true}
use Rattle.pauli.specs.Letters.{◌⊕◌, z}
use Rattle.pauli.specs.Rows.{Letters, Row}
use Rattle.pauli.proofs.Cases.{tested, bit}
use Rattle.clifford.specs.declared.One.TheVariants.{PauliX}
use Rattle.clifford.specs.declared.Gate.TheVariants.{One as one}
use Rattle.clifford.specs.declared.After.{After}
use Rattle.clifford.specs.declared.After.TheVariants.{Keep, Reset}
use Rattle.clifford.specs.Gates.{new, gate}
use Rattle.clifford.specs.Tableau.{Rows}
use Rattle.clifford.specs.Run.{afterwards}

pub x_letters : (a : ℕ) (r : Letters) → new (one PauliX a) r ≡ r
x_letters a r = λ i j. go j (eqb j a) refl i
  where
    go : (j : ℕ) (b : Bool) → eqb j a ≡ b → cond b (r a) (r j) ≡ r j
    go j true e = rw (eqb-true j a e)
    go j false e = refl

-- the sign of a row with Z or Y on a turns over where X is applied
abbrev pub turned : After → ℕ → Bool → Row → Row
turned Keep a outcome r = r
turned Reset a outcome r = record { minus = r.minus ⊕ (outcome && z (r.letters a)); letters = r.letters }

abbrev pub all_turned : After → ℕ → Bool → Rows → Rows
all_turned f a outcome t = record { destabilizer = λ i. turned f a outcome (t.destabilizer i); stabilizer = λ i. turned f a outcome (t.stabilizer i) }

x_row : (a : ℕ) (r : Row) → gate (one PauliX a) r ≡ turned Reset a true r
x_row a r = λ i. record { minus = r.minus ⊕ z (r.letters a); letters = x_letters a r.letters i }

no_turn : (a : ℕ) (r : Row) → r ≡ turned Reset a false r
no_turn a r = λ i. record { minus = plus r.minus i; letters = r.letters }
  where
    plus : (b : Bool) → b ≡ b ⊕ false
    plus = tested (bit ∷ []) bit _ _ tt

pub afterwards_turns : (f : After) (a : ℕ) (outcome : Bool) (t : Rows) → afterwards f a outcome t ≡ all_turned f a outcome t
afterwards_turns Keep a outcome t = refl
afterwards_turns Reset a true t = λ i. record { destabilizer = λ k. x_row a (t.destabilizer k) i; stabilizer = λ k. x_row a (t.stabilizer k) i }
afterwards_turns Reset a false t = λ i. record { destabilizer = λ k. no_turn a (t.destabilizer k) i; stabilizer = λ k. no_turn a (t.stabilizer k) i }
