use Rattle.read_rows.specs.Parts.Loading.{SlicedRows}
use Rattle.read_rows.proofs.RowTexts.sliced.Given as goal

abbrev pub invariant-loop-i : goal.invariant-loop-i
invariant-loop-i l = SlicedRows l.self.bytes.now l.self.qubits l.first l.i l.p
