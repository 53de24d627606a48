-- `writing::put_row` meets its contract: the letters passed stand behind the sign. Assumes nothing.
use mathlib.Core.Path.{◌≡◌, sym, ◌∙◌, ap}
use Prim.Native.Nat.{◌+◌}
use native.Mathlib.Omega.{arith}
use lib.ListN.{set, length-set}
use Rattle.words.specs.Bit.{bit}
use Rattle.writing.proofs.Placing.{placed, placed_none, placed_front, then_byte}
use Rattle.writing.proofs.Texts.{row_letters, row_letters_none, row_letters_more, length-row_letters, row_placed}
use Rattle.writing.proofs.put_row.Goals as goal

pub loop-j-init : goal.loop-j-init
loop-j-init c =
    let e = c.args in
    placed_none _ _ ∙ ap (placed _ _) (sym (row_letters_none e.p.now e.i))

pub loop-j-preserved : goal.loop-j-preserved
loop-j-preserved c =
    let e = c.args in
    let l = c.loop-j in
    let k = length-row_letters e.p.now e.i l.j in
    let h = length-set e.out.now 0 c.sign_byte.result in
    then_byte _ _ 1 (row_letters e.p.now e.i l.j) l.invariant (1 + l.j) _ _
    (row_letters_more e.p.now e.i l.j _ c.letter_in.ensures)
    (omega arith) (omega arith)

pub returns : goal.returns
unfolding bit
returns c =
    let e = c.args in
    let j : c.loop-j.j ≡ e.n = omega arith in
    let b = c.sign_byte.result in
    c.loop-j.invariant ∙ ap (λ k. placed (set e.out.now 0 b) 1 (row_letters e.p.now e.i k)) j
    ∙ row_placed e.p.now e.i e.n e.out.now 0 b (omega arith) c.sign_byte.ensures ∙ placed_front e.out.now _
