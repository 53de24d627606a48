-- `print::run_and_print` meets its contract. Assumes nothing.
use mathlib.Core.Path.{refl}
use native.Mathlib.Omega.{arith}
use borrow.Author.Rules.{rules}
use Rattle.print.proofs.Splitting.{put_front}
use Rattle.print.proofs.run_and_print.Goals as goal

pub returns-clause-printed : goal.returns-clause-printed
returns-clause-printed c =
    put_front _ _ _ _ _ c.answered-ran.ensures.lines refl c.put_answer-2.ensures (omega (arith, c.if-out-measure.false, c.put_answer.ensures.next_is, c.put_answer-2.ensures.next_is)) (search rules)
