-- `walking::Walk::walk` meets its contract. Assumes nothing.
use borrow.Author.Rules.{rules}
use mathlib.Core.Path.{◌≡◌, refl, ◌∙◌}
use native.Mathlib.Omega.{arith}
use Rattle.walking.proofs.Walking.{walk_begin, walk_room, walk_on, walk_stopped, walk_full, walk_end}
use Rattle.walking.proofs.Walk.walk.Goals as goal

pub loop-line-init : goal.loop-line-init
loop-line-init c =
    let w = c.args.self.now in
    (refl, rw c.requires.nothing (walk_begin c.args.text.now c.args.body w.rows.qubits c.args.coins.now w.rows.words w.marks w.rows.holds (search rules) c.requires.from_start))

pub returns-then-text-at : goal.returns-then-text-at
returns-then-text-at c =
    let v = c.loop-line.invariant in
    walk_end c.args.text.now c.args.body c.args.self.now.rows.qubits c.args.coins.now _ _ _ _ _ (rw v.0 at v.1) c.if-text-at.true

pub turn-requires : goal.turn-requires
turn-requires c =
    let l = c.loop-line in
    (walk_room c.args.text.now c.args.body l.self.rows.qubits c.args.coins.now l.self.rows.words l.self.marks l.self.tally l.at l.line l.invariant.1 (omega (arith, c.loop-line-test.true)), omega (arith, c.if-text-at.false))

pub returns-in-Err : goal.returns-in-Err
returns-in-Err c =
    let v = c.loop-line.invariant in
    walk_stopped c.args.text.now c.args.body c.args.self.now.rows.qubits c.args.coins.now _ _ _ _ _ (rw v.0 at v.1) (omega (arith, c.if-text-at.false)) c.in-Err.field-0 (rw v.0 at c.in-Err.ensures)

pub loop-line-preserved : goal.loop-line-preserved
loop-line-preserved c =
    let l = c.loop-line in
    let g = c.in-Ok.ensures in
    (g.0 ∙ l.invariant.0, rw g.0 (walk_on c.args.text.now c.args.body l.self.rows.qubits c.args.coins.now _ _ _ _ _ l.invariant.1 (omega (arith, c.if-text-at.false)) (omega (arith, c.loop-line-test.true)) _ _ _ _ g.1))

pub returns-then-at-text : goal.returns-then-at-text
returns-then-at-text c =
    let v = c.loop-line.invariant in
    let e : c.loop-line.line ≡ 4098 = omega arith in
    walk_full c.args.text.now c.args.body c.args.self.now.rows.qubits c.args.coins.now _ _ _ _ _ (rw (v.0, e) at v.1) c.if-at-text.true (omega arith)

pub returns : goal.returns
returns c =
    let v = c.loop-line.invariant in
    walk_end c.args.text.now c.args.body c.args.self.now.rows.qubits c.args.coins.now _ _ _ _ _ (rw v.0 at v.1) (omega (arith, c.if-at-text.false))
