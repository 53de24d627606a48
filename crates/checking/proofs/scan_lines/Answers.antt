-- `checking::scan_lines` meets its contract. The invariant: what was counted so far is the start of the whole count. Assumes nothing.
use Rattle.std.proofs.lemmas.Result.{err_from_is_err_and}
use Rattle.checking.proofs.Counting.{too_many, refused_line, passed_line, counted}
use Rattle.checking.proofs.scan_lines.Goals as goal

pub returns-then-operations-eq-MOST_OPERATIONS : goal.returns-then-operations-eq-MOST_OPERATIONS
returns-then-operations-eq-MOST_OPERATIONS c = too_many _ _ _ _ _ _ c.loop-at.invariant c.loop-at-test.true c.if-operations-eq-MOST_OPERATIONS.true

pub returns-in_err-turn : goal.returns-in_err-turn
returns-in_err-turn c =
    let p = err_from_is_err_and c.from_residual.result c.from_residual.ensures.1 in
    rw (p.1, p.2) (refused_line _ _ _ _ _ _ c.loop-at.invariant _ _ c.loop-at-test.true c.if-operations-eq-MOST_OPERATIONS.false c.in_err-turn.ensures)

pub loop-at-preserved : goal.loop-at-preserved
loop-at-preserved c = passed_line _ _ _ _ _ _ c.loop-at.invariant _ _ c.loop-at-test.true c.if-operations-eq-MOST_OPERATIONS.false c.in_ok-turn.ensures

pub returns : goal.returns
returns c = counted _ _ _ _ _ _ c.loop-at.invariant c.loop-at-test.false
