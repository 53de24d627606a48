use Rattle.column_sums.specs.Parts.Sums.{Against}
use Rattle.column_sums.proofs.against.Given as goal

abbrev pub invariant-loop-i : goal.invariant-loop-i
invariant-loop-i l = Against l.rows.bytes.now l.rows.qubits l.w l.i l.found
