-- `quick_lines::other::line_at` meets its contract. Assumes nothing.
use mathlib.Core.Path.{sym, ◌∙◌}
use Rattle.quick_lines.proofs.Others.{refused_below, refused_apart, op_malformed}
use Rattle.quick_lines.proofs.other.line_at.Goals as goal
use Rattle.quick_lines.proofs.other.line_at.Goals.{else-qubits_below-via-then-qubits_below+else-qubits_apart, else-qubits_below-via-else-qubits_below}

pub returns-in_err-op : goal.returns-in_err-op
returns-in_err-op c = rw c.from_residual.ensures (op_malformed c.args.s.now c.args.at c.args.n c.in_err-op.ensures)

pub returns-else-qubits_below : goal.returns-else-qubits_below
returns-else-qubits_below c =
    elim c.else-qubits_below.branch [
      | else-qubits_below-via-then-qubits_below+else-qubits_apart w ↦ refused_apart _ _ _ _ _ c.in_ok-op.ensures (sym w.qubits_apart.ensures ∙ w.if-qubits_apart.false)
      | else-qubits_below-via-else-qubits_below w ↦ refused_below _ _ _ _ _ c.in_ok-op.ensures (sym c.qubits_below.ensures ∙ w.if-qubits_below.false)
    ]
