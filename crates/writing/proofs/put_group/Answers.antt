-- `writing::put_group` meets its contract: the rows of the words passed are written. Assumes nothing.
use mathlib.Core.Path.{◌≡◌, refl, sym, ◌∙◌, ap}
use Prim.Native.Nat.{◌+◌, ◌*◌, ◌/◌}
use native.Mathlib.Omega.{arith}
use Rattle.writing.specs.Parts.Texts.{texts_from}
use Rattle.writing.proofs.Placing.{placed, placed_none, placed_front, rest_placed}
use Rattle.writing.proofs.Texts.{texts_none, length-texts, then_texts, rows_end}
use Rattle.writing.proofs.put_group.Goals as goal

pub loop-done-init : goal.loop-done-init
loop-done-init c =
    let e = c.args in
    (omega arith, refl, placed_none _ _ ∙ ap (placed _ _) (sym (texts_none e.n e.words.now (64 * e.first))))

pub loop-done-preserved : goal.loop-done-preserved
loop-done-preserved c =
    let l = c.loop-done in
    let e = c.args in
    let s = 64 * (e.first + l.done / 64) in
    let h = rows_end l.done c.min.result e.n (e.n + 1) (omega arith) in
    let k : c.min.result ≡ 64 = omega arith in (
      omega arith,
      omega arith,
      then_texts e.n e.words.now e.out.now l.out _ 0 (64 * e.first) l.done s c.min.result (l.done * (e.n + 1)) l.invariant.2
          (rest_placed l.out _ _ (l.done * (e.n + 1)) (omega (arith, length-texts e.n e.words.now s c.min.result)) c.put_rows.ensures) (omega arith) (omega arith) (omega arith)
          ∙ ap (λ k. placed e.out.now 0 (texts_from e.n e.words.now (64 * e.first) (l.done + k))) k,
    )

pub returns : goal.returns
returns c =
    let e = c.args in
    let k : c.loop-done.done ≡ e.n = omega arith in
    c.loop-done.invariant.2 ∙ ap (λ k. placed e.out.now 0 (texts_from e.n e.words.now (64 * e.first) k)) k ∙ placed_front e.out.now _

pub returns-2 : goal.returns-2
returns-2 c =
    let l = c.loop-done in
    let e = c.args in
    let s = 64 * (e.first + l.done / 64) in
    let h = rows_end l.done c.min.result e.n (e.n + 1) (omega arith) in
    let k : l.done + c.min.result ≡ e.n = omega arith in
    then_texts e.n e.words.now e.out.now l.out _ 0 (64 * e.first) l.done s c.min.result (l.done * (e.n + 1)) l.invariant.2
    (rest_placed l.out _ _ (l.done * (e.n + 1)) (omega (arith, length-texts e.n e.words.now s c.min.result)) c.put_rows.ensures) (omega arith) (omega arith) (omega arith)
    ∙ ap (λ k. placed e.out.now 0 (texts_from e.n e.words.now (64 * e.first) k)) k ∙ placed_front e.out.now _
