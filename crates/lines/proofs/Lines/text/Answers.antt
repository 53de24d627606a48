-- `lines::Lines::text` meets its contract. Assumes nothing.
use Rattle.lines.proofs.Putting.{puts_more}
use Rattle.lines.proofs.Lines.text.Goals as goal

pub loop-b-preserved : goal.loop-b-preserved
loop-b-preserved c = puts_more _ _ _ _ _ c.loop-b-test.true c.loop-b.invariant c.byte.ensures
