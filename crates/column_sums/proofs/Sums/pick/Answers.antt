-- `column_sums::Sums::pick` meets its contract: the numbers of the letters passed are there, and then those of the second half. Assumes nothing.
use Rattle.std.proofs.Common.{◌≡◌, length, arith}
use Rattle.column_sums.proofs.Picking.{number_small, numbered_more, added_more, picks_made}
use Rattle.column_sums.proofs.Sums.pick.Goals as goal

pub loop-j-preserved : goal.loop-j-preserved
loop-j-preserved c = numbered_more _ c.loop-j.j c.loop-j.p _ (omega (arith, c.split_at.ensures.front_len, c.args.self.now.most)) c.loop-j.invariant c.number.ensures

pub overflow_add-p : goal.overflow_add-p
overflow_add-p c =
    let n = c.split_at.ensures in
    let k = c.loop-k.k in
    omega (arith, c.loop-k.invariant.others k (omega arith), c.loop-j.invariant.numbers k (omega (arith, n.front_len, n.back_len)), c.number-in-loop-k.ensures, number_small)

pub loop-k-preserved : goal.loop-k-preserved
loop-k-preserved c =
    let l = c.loop-k in
    let n = c.split_at.ensures in
    added_more _ l.k _ l.p _ (omega (arith, c.loop-j.invariant.size, n.front_len, n.back_len, c.args.self.now.most)) l.invariant (omega (arith, l.invariant.others l.k (omega arith), c.number-in-loop-k.ensures))

pub returns : goal.returns
returns c =
    let n = c.split_at.ensures in
    let j : c.loop-j.j ≡ length c.split_at.result.0.now = omega arith in
    let k : c.loop-k.k ≡ length c.split_at.result.1.now = omega arith in
    picks_made c.args.letters.now c.args.self.now.half c.args.self.now.most (omega arith) (omega arith) c.loop-j.p _ c.split_at.result.0.now c.split_at.result.1.now n.front n.back
    (rw j at c.loop-j.invariant) (rw k at c.loop-k.invariant)
