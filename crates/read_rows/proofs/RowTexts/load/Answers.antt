-- `read_rows::RowTexts::load` meets its contract: the rows of the words passed are there. Assumes nothing.
use Rattle.std.proofs.Common.{◌≡◌, sym, subst, ◌+◌, arith, rules}
use Rattle.read_rows.proofs.Loads.{Begun, begun_more, begun_past, loaded}
use Rattle.read_rows.proofs.RowTexts.load.Goals.{then-count-gt0, else-count-gt0}
use Rattle.read_rows.proofs.RowTexts.load.Goals as goal

pub loop-g-preserved : goal.loop-g-preserved
loop-g-preserved c =
    let l = c.loop-g in
    let r = c.args.self.now in
    let sh = c.share-count in
    elim c.if-count-gt0.branch [
      | then-count-gt0 a ↦ subst (Begun r.bytes.now r.qubits (l.g + 1)) (sym a.w-is) (begun_more r.bytes.now r.qubits l.g sh.result l.w _ (search rules) r.most sh.ensures l.invariant a.place.ensures)
      | else-count-gt0 b ↦ subst (Begun r.bytes.now r.qubits (l.g + 1)) (sym b.w-is) (begun_past r.bytes.now r.qubits l.g l.w l.invariant sh.result (search rules) r.most sh.ensures b.if-count-gt0.false)
    ]

pub returns : goal.returns
returns c =
    let r = c.args.self.now in
    let g : c.loop-g.g ≡ 4 = omega arith in
    loaded r.bytes.now r.qubits c.loop-g.w r.most (rw g at c.loop-g.invariant)
