-- `print_lines::put_rows` meets its contract. Assumes nothing.
use native.Mathlib.Omega.{arith}
use Rattle.print_lines.proofs.Rows.{row_begin, row_within, row_put}
use Rattle.print_lines.proofs.put_rows.Goals as goal

pub loop-i-init : goal.loop-i-init
loop-i-init c = row_begin _ _ _

pub loop-i-preserved : goal.loop-i-preserved
loop-i-preserved c =
    let within = row_within c.loop-i.i c.args.count c.args.width c.loop-i-test.true in
    row_put _ _ _ _ _ _ _ (omega (arith, within, c.requires.within)) c.loop-i.invariant c.text.ensures c.byte.ensures
