use Rattle.read_rows.proofs.Loads.{Begun}
use Rattle.read_rows.proofs.RowTexts.load.Given as goal

abbrev pub invariant-loop-g : goal.invariant-loop-g
invariant-loop-g l = Begun l.self.bytes.now l.self.qubits l.g l.w
