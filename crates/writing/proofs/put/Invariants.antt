use mathlib.Core.Path.{◌≡◌}
use lib.ListN.{take}
use Rattle.writing.proofs.Placing.{placed}
use Rattle.writing.proofs.put.Given as goal

abbrev pub invariant-loop-k : goal.invariant-loop-k
invariant-loop-k l = l.out ≡ placed l.initial.out 0 (take l.k l.text)
