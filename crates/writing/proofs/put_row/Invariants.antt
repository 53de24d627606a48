use mathlib.Core.Path.{◌≡◌}
use Rattle.writing.proofs.Placing.{placed}
use Rattle.writing.proofs.Texts.{row_letters}
use Rattle.writing.proofs.put_row.Given as goal

abbrev pub invariant-loop-j : goal.invariant-loop-j
invariant-loop-j l = l.out ≡ placed l.initial.out 1 (row_letters l.p l.i l.j)
