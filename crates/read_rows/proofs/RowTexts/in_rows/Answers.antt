-- `read_rows::RowTexts::in_rows` meets its contract: no byte of the rows passed stops the search. Assumes nothing.
use Rattle.std.proofs.Common.{ap, ◌∙◌, sym, length}
use Rattle.answers.specs.First.{lowest}
use Rattle.answers.proofs.First.{lowest_none, none_passes, lowest_below}
use Rattle.read_rows.proofs.Texts.{row_inside}
use Rattle.read_rows.proofs.Places.{bad_in_row, bad_in_rows, row_more, row_stops, rows_end}
use native.Mathlib.Omega.{arith}
use Rattle.read_rows.proofs.RowTexts.in_rows.Goals as goal

pub overflow_add-result-in-Some : goal.overflow_add-result-in-Some
overflow_add-result-in-Some c =
    let n = c.args.self.now.qubits in
    let k = lowest_below (bad_in_row c.row.result.now) (length c.row.result.now) c.in-Some.k c.in-Some.ensures in
    omega (arith, row_inside n c.loop-i.i (omega arith), c.row.ensures.size)

pub returns-in-Some : goal.returns-in-Some
returns-in-Some c =
    let r = c.args.self.now in
    row_stops r.bytes.now r.qubits c.loop-i.i c.row.result.now c.row.ensures.text c.loop-i.invariant _ (omega arith) r.whole (c.in-Some.ensures ∙ ap (lowest (bad_in_row c.row.result.now)) c.row.ensures.size)

pub loop-i-preserved : goal.loop-i-preserved
loop-i-preserved c =
    let r = c.args.self.now in
    row_more r.bytes.now r.qubits c.loop-i.i c.row.result.now c.row.ensures.text c.loop-i.invariant
    (λ j h. none_passes (bad_in_row c.row.result.now) (length c.row.result.now) (sym c.in_default.ensures) j (omega (arith, c.row.ensures.size)))

pub returns : goal.returns
returns c =
    let r = c.args.self.now in
    sym (lowest_none (bad_in_rows r.bytes.now r.qubits) (length r.bytes.now) (λ k h. c.loop-i.invariant k (rows_end r.qubits c.loop-i.i k (omega arith) (omega (arith, r.whole)))))
