use lib.ListN.{take}
use Rattle.lines.specs.Parts.Putting.{Puts}
use Rattle.lines.proofs.Lines.text.Given as goal

abbrev pub invariant-loop-b : goal.invariant-loop-b
invariant-loop-b l = Puts (take l.b-index l.text) l.initial.self l.self
