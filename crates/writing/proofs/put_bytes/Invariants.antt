use Rattle.writing.proofs.Bytes.{Filling}
use Rattle.writing.proofs.put_bytes.Given as goal

abbrev pub invariant-loop-r : goal.invariant-loop-r
invariant-loop-r l = Filling l.words l.slot l.j l.r l.plane
