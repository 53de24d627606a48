-- `print::put_run` meets its contract. Assumes nothing.
use Rattle.print.proofs.Printing.{print_begin, print_gate, print_outcome, print_end}
use Rattle.print.proofs.put_run.Goals as goal
use Rattle.print.proofs.put_run.Goals.{in-Measure, in_default-op}

pub loop-op-init : goal.loop-op-init
loop-op-init c = print_begin _ _ _ _ _ c.requires.ready

pub loop-op-preserved : goal.loop-op-preserved
loop-op-preserved c =
    elim c.match-op.branch [
      | in-Measure w ↦
          rw (w.lines-is, w.measured-is)
          (print_outcome _ _ _ _ _ c.requires.ready _ _ _ _ c.loop-op.invariant _ _ _ (rw w.in-Measure.is at c.in-Some.ensures) _ (rw w.outcome.ensures at w.put_outcome.ensures))
      | in_default-op w ↦
          rw (w.lines-is, w.measured-is)
          (print_gate _ _ _ _ _ c.requires.ready _ _ _ _ c.loop-op.invariant _ _ (rw w.in_default-op.is at c.in-Some.ensures))
    ]

pub returns : goal.returns
returns c = print_end _ _ _ _ _ c.requires.ready _ _ _ _ c.loop-op.invariant c.in_default.ensures _ c.put_rows.ensures
