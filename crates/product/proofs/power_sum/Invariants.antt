use Rattle.product.proofs.Laws.{Summed}
use Rattle.product.proofs.power_sum.Given as goal

abbrev pub invariant-loop-k : goal.invariant-loop-k
invariant-loop-k l = Summed l.first l.second l.sum l.k
