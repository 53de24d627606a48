use Rattle.writing.specs.Parts.Planes.{Filled}
use Rattle.writing.proofs.put_plane.Given as goal

abbrev pub invariant-loop-j : goal.invariant-loop-j
invariant-loop-j l = Filled l.words l.slot l.j l.plane
