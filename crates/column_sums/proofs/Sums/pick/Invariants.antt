use Rattle.column_sums.proofs.Picking.{Numbered, Added}
use Rattle.column_sums.proofs.Sums.pick.Given as goal

abbrev pub invariant-loop-j : goal.invariant-loop-j
invariant-loop-j l = Numbered l.low l.j l.p

abbrev pub invariant-loop-k : goal.invariant-loop-k
invariant-loop-k l = Added l.high l.k l.initial.p l.p
