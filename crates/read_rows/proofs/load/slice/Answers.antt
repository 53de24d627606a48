-- `read_rows::load::slice` meets its contract: the bytes passed are turned over, the others not. Assumes nothing.
use Rattle.std.proofs.Common.{◌≡◌, refl, ◌∙◌, ap, ◌+◌, get_or, cond, Bool, arith, rules, length}
use lib.Bits.{bit_xor}
use Rattle.read_rows.proofs.Slices.{turned_none, turned_more}
use Rattle.read_rows.proofs.load.slice.Goals as goal

pub loop-j-init : goal.loop-j-init
loop-j-init c = record { xs = turned_none _ _ _ _; zs = turned_none _ _ _ _; signs = refl }

pub loop-j-preserved : goal.loop-j-preserved
loop-j-preserved c =
    let l = c.loop-j in
    let e = c.args in
    let p = e.from + l.j in
    record {
      xs = turned_more _ l.j e.bit e.from e.p.now.x l.p.x _ l.invariant.xs (search rules) (ap (bit_xor (get_or l.p.x p 0)) (c.chosen.ensures ∙ ap (λ (b : Bool). cond b e.bit 0) c.has_x.ensures));
      zs = turned_more _ l.j e.bit e.from e.p.now.z l.p.z _ l.invariant.zs (search rules) (ap (bit_xor (get_or l.p.z p 0)) (c.chosen-in-loop-j.ensures ∙ ap (λ (b : Bool). cond b e.bit 0) c.has_z.ensures));
      signs = l.invariant.signs;
    }

pub returns-clause-x_turned : goal.returns-clause-x_turned
returns-clause-x_turned c =
    let j : c.loop-j.j ≡ length c.args.letters.now = omega arith in
    rw j at c.loop-j.invariant.xs

pub returns-clause-z_turned : goal.returns-clause-z_turned
returns-clause-z_turned c =
    let j : c.loop-j.j ≡ length c.args.letters.now = omega arith in
    rw j at c.loop-j.invariant.zs
