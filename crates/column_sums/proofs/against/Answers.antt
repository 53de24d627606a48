-- `column_sums::against` meets its contract: the rows passed are found. Assumes nothing.
use mathlib.Core.Path.{ap, ◌∙◌}
use native.Mathlib.Omega.{arith}
use Rattle.pauli.specs.Texts.{letter_of}
use Rattle.read_rows.proofs.Texts.{letters, letter_byte_at}
use Rattle.column_sums.proofs.Halves.{picked_row, against_more}
use Rattle.column_sums.proofs.against.Goals as goal

pub loop-i-preserved : goal.loop-i-preserved
loop-i-preserved c =
    let r = c.args.rows.now in
    let row = c.row-row in
    let sums = c.fill.new.self in
    let at = letter_byte_at row.result.now _ r.qubits row.ensures.text row.ensures.size in
    against_more r.bytes.now r.qubits c.args.w.now c.loop-i.i c.loop-i.found c.picked.result (letters row.result.now) (omega (arith, r.most)) c.loop-i.invariant
    (λ j h. ap letter_of (at j h))
    (λ s l. c.picked.ensures s l ∙ picked_row _ r.qubits sums.half c.args.w.now sums.table c.pick.new.p (omega (arith, c.fill.ensures.half, c.div_ceil.ensures)) (omega (arith, c.fill.ensures.half, c.div_ceil.ensures)) r.most c.requires c.fill.ensures.table c.pick.ensures s l)
