-- `pauli::has_z` meets its contract. Assumes nothing.
use Rattle.pauli.proofs.Cases.{tested, bit}
use Rattle.pauli.specs.Texts.{letter_of}
use Rattle.pauli.specs.Letters.{I, Y, Z, z}
use borrow.Author.Tests.{eqb-true}
use Prim.Native.Nat.{ℕ}
use lib.Dec.{eqb}
use mathlib.Core.List.{[], ◌∷◌}
use mathlib.Core.Bool.{Bool, true, false, cond, ◌||◌}
use mathlib.Core.Path.{◌≡◌, refl}
use Rattle.pauli.proofs.has_z.Goals as goal

pub returns : goal.returns
returns c = at_88 c.args.b (eqb c.args.b 88) refl
  where
    other : (q r : Bool) → q || r ≡ z (cond q Y (cond r Z I))
    other = tested (bit ∷ bit ∷ []) bit _ _ tt

    at_88 : (b : ℕ) (p : Bool) → eqb b 88 ≡ p → eqb b 89 || eqb b 90 ≡ z (letter_of b)
    at_88 b true e = rw (eqb-true b 88 e)
    at_88 b false e = rw e (other (eqb b 89) (eqb b 90))
