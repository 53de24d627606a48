use Prim.Native.Nat.{◌-◌}
use lib.ListN.{length}
use Rattle.print.proofs.Printing.{Printing}
use Rattle.print.proofs.put_run.Given as goal

abbrev pub invariant-loop-op : goal.invariant-loop-op
invariant-loop-op l = Printing l.text l.heading.body l.heading.qubits l.sheet l.initial.lines l.lines l.at l.line l.measured

abbrev pub decreases-loop-op : goal.decreases-loop-op
decreases-loop-op l = length l.text - l.at
