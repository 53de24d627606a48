-- `read_rows::RowTexts::place` meets its contract: the words of the qubits passed are stored. Assumes nothing.
use Rattle.std.proofs.Common.{arith, rules}
use Rattle.read_rows.proofs.Slices.{built_word}
use Rattle.read_rows.proofs.Placing.{filled_more}
use Rattle.read_rows.proofs.RowTexts.place.Goals as goal

pub loop-j-preserved : goal.loop-j-preserved
loop-j-preserved c =
    let l = c.loop-j in
    let e = c.args in
    let r = e.self.now in
    let p = c.sliced-p in
    let u = c.word in
    let v = c.word-in-loop-j in
    filled_more r.bytes.now r.qubits e.first e.count e.g e.w.now l.w l.j u.result v.result (search rules) (omega (arith, r.most)) l.invariant
    (built_word _ r.qubits e.count p.result.x l.j u.result p.ensures.xs (search rules) (search rules) (omega (arith, u.type_inv)) u.ensures)
    (built_word _ r.qubits e.count p.result.z l.j v.result p.ensures.zs (search rules) (search rules) (omega (arith, v.type_inv)) v.ensures)
