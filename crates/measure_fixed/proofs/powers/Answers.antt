-- `measure_fixed::powers` meets its contract. Assumes nothing.
use mathlib.Core.Path.{◌≡◌, subst}
use native.Mathlib.Omega.{arith}
use Rattle.measure_fixed.specs.Parts.Column.{pair}
use Rattle.measure_fixed.proofs.Passing.{Passing, passing_none, passing_more, passing_over, passing_same, passing_all}
use Rattle.measure_fixed.proofs.powers.Goals as goal
use Rattle.measure_fixed.proofs.powers.Goals.{then-x0-x1-ne0, else-x0-x1-ne0}

pub loop-j-init : goal.loop-j-init
loop-j-init c = passing_none c.args.w.now (pair c.args.sel c.args.tel) (c.ranges.sel.fits, c.ranges.tel.fits)

pub loop-j-preserved : goal.loop-j-preserved
loop-j-preserved c =
    let a = c.args in
    let v = c.loop-j in
    let more = passing_more a.w.now (pair a.sel a.tel) (c.ranges.sel.fits, c.ranges.tel.fits) v.twos (pair v.h0 v.h1) v.columns v.j v.invariant in
    let over = passing_over a.w.now (pair a.sel a.tel) (c.ranges.sel.fits, c.ranges.tel.fits) v.twos (pair v.h0 v.h1) v.columns v.j v.invariant in
    elim c.if-x0-x1-ne0.branch [
      | then-x0-x1-ne0 w ↦
          passing_same (more (pair w.parities-p0.result w.parities.result) w.splat.result w.both_odd-columns.result w.both_odd-columns.ensures.0 w.parities-p0.ensures w.parities.ensures w.splat.ensures w.both_odd-columns.ensures.1) w.twos-is w.h0-is w.h1-is w.columns-is
      | else-x0-x1-ne0 w ↦ passing_same (over w.if-x0-x1-ne0.false) w.twos-is w.h0-is w.h1-is w.columns-is
    ]

pub returns : goal.returns
returns c =
    let a = c.args in
    let v = c.loop-j in
    let e : v.j ≡ a.n = omega arith in
    rw (c.from.ensures, c.from-2.ensures, c.from-3.ensures)
    (passing_all a.w.now (pair a.sel a.tel) (c.ranges.sel.fits, c.ranges.tel.fits) v.twos (pair v.h0 v.h1) v.columns a.n
    (subst (Passing a.w.now (pair a.sel a.tel) v.twos (pair v.h0 v.h1) v.columns) e v.invariant))
