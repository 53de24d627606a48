use Rattle.product.proofs.Laws.{Writing}
use Rattle.product.proofs.write.Given as goal

abbrev pub invariant-loop-k : goal.invariant-loop-k
invariant-loop-k l = Writing l.first l.second l.minus l.initial.out l.out l.k
