-- `weighing::weigh` meets its contract. Assumes nothing.
use mathlib.Core.Path.{◌≡◌, refl, ◌∙◌}
use native.Mathlib.Omega.{arith}
use Rattle.weighing.proofs.Weighing.{weigh_begin, weigh_room, weigh_on, weigh_halted, weigh_full, weigh_end}
use Rattle.weighing.proofs.weigh.Goals as goal

pub loop-done-init : goal.loop-done-init
loop-done-init c =
    let r = c.args.rows.now in
    (refl, weigh_begin c.args.text.now c.args.body r.qubits c.args.stated.now r.words r.holds c.requires)

pub pace-requires : goal.pace-requires
pace-requires c =
    let l = c.loop-done in
    (weigh_room c.args.text.now c.args.body l.rows.qubits c.args.stated.now l.rows.words l.passed l.at l.done l.invariant.1 (omega (arith, c.loop-done-test.true)), omega (arith, c.if-text-at.false))

pub returns-then-text-at : goal.returns-then-text-at
returns-then-text-at c =
    let v = c.loop-done.invariant in
    weigh_end c.args.text.now c.args.body c.args.rows.now.qubits c.args.stated.now _ _ _ _ (rw v.0 at v.1) c.if-text-at.true

pub returns-in-None : goal.returns-in-None
returns-in-None c =
    let v = c.loop-done.invariant in
    weigh_halted c.args.text.now c.args.body c.args.rows.now.qubits c.args.stated.now _ _ _ _ (rw v.0 at v.1) (omega (arith, c.if-text-at.false)) (rw v.0 at c.in-None.ensures.is)

pub loop-done-preserved : goal.loop-done-preserved
loop-done-preserved c =
    let l = c.loop-done in
    let g = c.in-Some.ensures in
    (g.same ∙ l.invariant.0, rw g.same (weigh_on c.args.text.now c.args.body l.rows.qubits c.args.stated.now _ _ _ _ l.invariant.1 (omega (arith, c.if-text-at.false)) (omega (arith, c.loop-done-test.true)) _ _ _ g.is))

pub returns-then-at-text : goal.returns-then-at-text
returns-then-at-text c =
    let v = c.loop-done.invariant in
    let e : c.loop-done.done ≡ 4096 = omega arith in
    weigh_full c.args.text.now c.args.body c.args.rows.now.qubits c.args.stated.now _ _ _ _ (rw (v.0, e) at v.1) c.if-at-text.true (omega arith)

pub returns : goal.returns
returns c =
    let v = c.loop-done.invariant in
    weigh_end c.args.text.now c.args.body c.args.rows.now.qubits c.args.stated.now _ _ _ _ (rw v.0 at v.1) (omega (arith, c.if-at-text.false))
