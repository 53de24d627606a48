use Rattle.column_sums.proofs.Picking.{SumOf}
use Rattle.column_sums.proofs.Sums.picked.Given as goal

abbrev pub invariant-loop-j : goal.invariant-loop-j
invariant-loop-j l = SumOf l.self.table l.p l.j l.sum
