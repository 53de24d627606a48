-- `pauli::has_x` meets its contract. Assumes nothing.
use Rattle.pauli.proofs.Cases.{tested, bit}
use Rattle.pauli.specs.Letters.{I, X, Y, Z, x}
use lib.Dec.{eqb}
use mathlib.Core.List.{[], ◌∷◌}
use mathlib.Core.Bool.{Bool, cond, ◌||◌}
use mathlib.Core.Path.{◌≡◌}
use Rattle.pauli.proofs.has_x.Goals as goal

pub returns : goal.returns
returns c = law (eqb c.args.b 88) (eqb c.args.b 89) (eqb c.args.b 90)
  where
    law : (p q r : Bool) → p || q ≡ x (cond p X (cond q Y (cond r Z I)))
    law = tested (bit ∷ bit ∷ bit ∷ []) bit _ _ tt
