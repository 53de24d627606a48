-- `print::shot` meets its contract. Assumes nothing.
use Rattle.print.proofs.Splitting.{prints_too_long, prints_split, prints_coins}
use Rattle.print.proofs.shot.Goals as goal

pub returns-then-input-gt-MOST_INPUT : goal.returns-then-input-gt-MOST_INPUT
returns-then-input-gt-MOST_INPUT c = rw (prints_too_long _ c.if-input-gt-MOST_INPUT.true) c.put_too_long.ensures

pub returns-in-Some : goal.returns-in-Some
returns-in-Some c = rw (prints_split _ _ c.if-input-gt-MOST_INPUT.false c.in-Some.ensures) c.print.ensures

pub returns-in-None : goal.returns-in-None
returns-in-None c = rw (prints_coins _ c.if-input-gt-MOST_INPUT.false c.in-None.ensures) c.print-in-None.ensures
