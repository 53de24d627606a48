use Rattle.std.proofs.Common.{◌≡◌, ◌∙◌, ap, ℕ, ◌-◌, length, arith}
use Rattle.product.specs.Parts.Table.{power_number}
use Rattle.product.proofs.Laws.{phase_below, sum-none, sum_more}
use Rattle.product.proofs.power_sum.Goals as goal

pub loop-k-init : goal.loop-k-init
loop-k-init c = rw (c.from.ensures, c.from-2.ensures) (sum-none _ _)

pub loop-k-preserved : goal.loop-k-preserved
loop-k-preserved c = sum_more _ _ _ _ _ c.loop-k.invariant (c.from-sum.ensures ∙ c.multiply.ensures.power)

pub returns : goal.returns
returns c =
    let k : c.loop-k.k ≡ length c.args.first.now = omega arith in
    c.loop-k.invariant.is ∙ ap (λ (m : ℕ). power_number (phase_below c.args.first.now c.args.second.now (m - 1))) k
