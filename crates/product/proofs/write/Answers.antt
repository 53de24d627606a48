use Rattle.std.proofs.Common.{◌∙◌}
use Rattle.std.proofs.Math.ListN.{set, length-set}
use Rattle.product.proofs.Laws.{write_sign, write_letter, write_over, write_end}
use Rattle.product.proofs.write.Goals as goal

pub loop-k-init : goal.loop-k-init
loop-k-init c = write_sign _ _ _ _ c.requires.1 c.requires.2 _ c.sign_byte.ensures

pub loop-k-preserved : goal.loop-k-preserved
loop-k-preserved c = write_letter _ _ _ _ c.requires.1 (simp length-set c.requires.2) _ _ _ c.loop-k-test.true c.loop-k.invariant c.multiply.ensures.letter

pub returns : goal.returns
returns c =
    write_end c.args.first.now c.args.second.now c.args.minus (set c.args.out.now 0 c.sign_byte.result) c.requires.1 (simp length-set c.requires.2) _ _ c.loop-k-test.false c.loop-k.invariant
    ∙ write_over c.args.first.now c.args.second.now c.args.minus c.args.out.now c.requires.1 c.requires.2 c.sign_byte.result
