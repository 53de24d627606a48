use native.Mathlib.Omega.{arith}
use Rattle.read_rows.proofs.Texts.{row_inside}
use Rattle.read_rows.proofs.RowTexts.row.Goals as goal

pub slice_bounds-result-end : goal.slice_bounds-result-end
slice_bounds-result-end c = omega (arith, row_inside c.args.self.now.qubits c.args.i c.requires)
