use Rattle.lines.proofs.Lines.+number.Given as goal

abbrev pub decreases-number : goal.decreases-number
decreases-number l = l.v
