-- `start_rows::put_letters` meets its contract. Assumes nothing.
use borrow.Author.Rules.{rules}
use mathlib.Core.Path.{◌≡◌}
use native.Mathlib.Omega.{arith}
use Rattle.start_rows.proofs.Starting.{Started, started_none, started_more, start_held, started}
use Rattle.start_rows.proofs.put_letters.Goals as goal

pub loop-i-init : goal.loop-i-init
loop-i-init c = started_none _ (search rules) c.requires.1

pub loop-i-preserved : goal.loop-i-preserved
loop-i-preserved c = started_more c.loop-i.i c.loop-i.w (omega (arith, c.requires.0)) c.loop-i.invariant

pub returns : goal.returns
returns c =
    let v = c.loop-i in
    let e : v.i ≡ c.args.n = omega arith in
    let a : Started c.args.n v.w = rw e at v.invariant in
    (start_held c.args.n v.w c.requires.0 a, started c.args.n v.w c.requires.0 a)
