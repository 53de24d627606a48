use Rattle.pauli.proofs.LetterLaws.{both}
use Rattle.read_rows.proofs.Places.{row_more}
use native.Mathlib.Omega.{arith}
use Rattle.read_rows.proofs.RowTexts.all_in_rows.Goals as goal

pub loop-i-preserved : goal.loop-i-preserved
loop-i-preserved c = λ t.
    let r = c.args.self.now in
    let k = both c.loop-i.ok c.all_in_row-ok.result t in
    row_more r.bytes.now r.qubits c.loop-i.i c.row.result.now c.row.ensures.text (c.loop-i.invariant k.0) (λ j h. c.all_in_row-ok.ensures k.1 j (omega (arith, c.row.ensures.size)))
