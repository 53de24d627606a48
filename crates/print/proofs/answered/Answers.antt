-- `print::answered` meets its contract. Assumes nothing.
use Rattle.std.proofs.lemmas.Result.{err_from_is_err_and}
use Rattle.print.proofs.Ended.{answered_refusal, answered_lines}
use Rattle.print.proofs.answered.Goals as goal

pub returns-in_err-answer : goal.returns-in_err-answer
returns-in_err-answer c =
    let p = err_from_is_err_and c.from_residual.result c.from_residual.ensures.1 in
    rw (p.1, p.2, c.in_err-answer.was) (answered_refusal _ _ _ _ _ c.requires _ (rw c.in_err-answer.was at c.run.ensures))

pub returns : goal.returns
returns c =
    rw c.in_ok-answer.was (answered_lines _ _ _ _ _ c.requires _ _ (rw c.in_ok-answer.was at c.run.ensures) c.head.ensures c.run.auto.record)
