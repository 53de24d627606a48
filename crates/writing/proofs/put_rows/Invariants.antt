use mathlib.Core.Path.{◌≡◌}
use Prim.Native.Nat.{◌*◌}
use Rattle.writing.proofs.Placing.{placed}
use Rattle.writing.specs.Parts.Texts.{texts_from}
use Rattle.writing.proofs.put_rows.Given as goal

abbrev pub invariant-loop-i : goal.invariant-loop-i
invariant-loop-i l = l.out ≡ placed l.initial.out 0 (texts_from l.n l.words (64 * l.g) l.i)
