use mathlib.Core.Path.{◌≡◌}
use Prim.Native.Nat.{◌*◌, ◌%◌, ◌≤◌}
use Rattle.writing.proofs.Placing.{placed}
use Rattle.writing.specs.Parts.Texts.{texts_from}
use Rattle.writing.proofs.put_group.Given as goal

abbrev pub invariant-loop-done : goal.invariant-loop-done
invariant-loop-done l = (l.done ≤ l.n) × (l.done % 64 ≡ 0) × (l.out ≡ placed l.initial.out 0 (texts_from l.n l.words (64 * l.first) l.done))
