-- `half::half_power` meets its contract. Assumes nothing.
use mathlib.Core.Path.{sym, subst}
use Prim.Native.Nat.{ℕ}
use mathlib.Core.Bool.{not}
use lib.Dec.{T}
use lib.Ieee.{binary64, nan_bits, of_bits}
use Rattle.half.specs.Half.{Halved}
use Rattle.half.proofs.Laws.{no_nan, halved_at}
use Rattle.half.proofs.half_power.Goals as goal

pub float_from_bits-result : goal.float_from_bits-result
float_from_bits-result c =
    subst (λ (n : ℕ). T (not (nan_bits binary64 n))) (sym c.half_pattern.ensures) (no_nan c.args.k c.requires)

pub returns : goal.returns
returns c =
    subst (λ (n : ℕ). Halved c.args.k (of_bits binary64 n)) (sym c.half_pattern.ensures) (halved_at c.args.k c.requires)
