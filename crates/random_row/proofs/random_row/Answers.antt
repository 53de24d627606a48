-- `random_row::random_row` meets its contract. Assumes nothing.
use mathlib.Core.Path.{refl}
use native.Mathlib.Omega.{arith}
use borrow.Author.Count.{below_none, below_more}
use Rattle.random_row.proofs.Lowest.{found_in, found_none}
use Rattle.random_row.proofs.random_row.Goals as goal

pub returns-then-p-lt64 : goal.returns-then-p-lt64
returns-then-p-lt64 c =
    let r = c.args.rows.now in
    found_in r.qubits r.words c.args.a r.holds r.few c.requires 0 _ (λ k l. absurd (omega arith)) c.if-p-lt64.true (omega arith) (omega (arith, c.if-p-lt64.true))

pub returns-then-q-lt64 : goal.returns-then-q-lt64
returns-then-q-lt64 c =
    let r = c.args.rows.now in
    found_in r.qubits r.words c.args.a r.holds r.few c.requires 1 _ (below_more _ 0 (below_none _) c.if-p-lt64.false) c.if-q-lt64.true refl (omega (arith, c.if-q-lt64.true))

pub returns-else-q-lt64 : goal.returns-else-q-lt64
returns-else-q-lt64 c =
    let r = c.args.rows.now in
    found_none r.qubits r.words c.args.a r.holds r.few c.requires (below_more _ 1 (below_more _ 0 (below_none _) c.if-p-lt64.false) c.if-q-lt64.false)
