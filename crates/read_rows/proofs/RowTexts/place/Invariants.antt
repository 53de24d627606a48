use Rattle.read_rows.proofs.Placing.{Filled}
use Rattle.read_rows.proofs.RowTexts.place.Given as goal

abbrev pub invariant-loop-j : goal.invariant-loop-j
invariant-loop-j l = Filled l.self.bytes.now l.self.qubits l.first l.count l.g l.initial.w l.w l.j
