-- `checking::scan` meets its contract. Assumes nothing.
use Rattle.std.proofs.lemmas.Result.{err_from_is_err_and}
use Rattle.checking.proofs.Meant.{lines_counted, lines_refused}
use Rattle.checking.proofs.scan.Goals as goal

pub returns-in_err-lines : goal.returns-in_err-lines
returns-in_err-lines c =
    let p = err_from_is_err_and c.from_residual-in_err-lines.result c.from_residual-in_err-lines.ensures.1 in
    let h = c.in_ok-line.ensures in
    rw (p.1, p.2) (lines_refused c.args.text.now _ _ h.stands _ _ h.some_qubits h.few_qubits c.in_err-lines.ensures)

pub returns : goal.returns
returns c =
    let h = c.in_ok-line.ensures in
    lines_counted _ _ _ h.stands _ _ h.some_qubits h.few_qubits c.in_ok-lines.ensures
