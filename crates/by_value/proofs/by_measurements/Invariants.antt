-- `by_value::by_measurements` keeps the number of qubits. Assumes nothing.
use mathlib.Core.Path.{◌≡◌}
use Rattle.limits.specs.Limits.{most_qubits}
use Rattle.by_value.proofs.by_measurements.Given as goal

abbrev pub invariant-loop-i : goal.invariant-loop-i
invariant-loop-i l = l.t.packed.qubits ≡ most_qubits
