use mathlib.Core.Path.{◌≡◌}
use Rattle.weighing.proofs.Weighing.{Weighing}
use Rattle.weighing.proofs.weigh.Given as goal

abbrev pub invariant-loop-done : goal.invariant-loop-done
invariant-loop-done l =
    (l.rows.qubits ≡ l.fn.rows.qubits) × Weighing l.text l.body l.rows.qubits l.stated l.rows.words l.passed l.at l.done
