-- `writing::put_rows` meets its contract: the rows passed are written. Assumes nothing.
use mathlib.Core.Path.{◌≡◌, refl, sym, ◌∙◌, ap}
use Prim.Native.Nat.{◌+◌, ◌*◌}
use native.Mathlib.Omega.{arith}
use Rattle.records.proofs.Lengths.{length-row_text}
use lib.ListN.{get_or}
use Rattle.packing.specs.declared.Planes.{Planes}
use Rattle.packing.specs.View.{row_at, sign_words}
use Rattle.pauli.specs.Texts.{row_text}
use Rattle.writing.specs.Parts.Planes.{plane_row}
use Rattle.writing.specs.Parts.Texts.{texts_from}
use Rattle.writing.proofs.Placing.{placed, placed_none, placed_front, rest_placed, then_placed}
use Rattle.writing.proofs.Texts.{plane_placed, texts_none, texts_more, length-texts, rows_end}
use Rattle.writing.proofs.put_rows.Goals as goal

pub loop-i-init : goal.loop-i-init
loop-i-init c =
    let e = c.args in
    placed_none _ _ ∙ ap (placed _ _) (sym (texts_none e.n e.words.now (64 * e.g)))

pub loop-i-preserved : goal.loop-i-preserved
loop-i-preserved c =
    let l = c.loop-i in
    let e = c.args in
    let s = 64 * e.g in
    let p : Planes = record { x = c.put_plane.new.plane; z = c.put_plane-2.new.plane; signs = get_or e.words.now (sign_words + e.g) 0 } in
    let r = row_text e.n (row_at e.n e.words.now (s + l.i)) in
    let h = rows_end l.i 1 e.k (e.n + 1) (omega arith) in
    let g = length-texts e.n e.words.now s l.i in
    then_placed e.out.now l.out 0 (texts_from e.n e.words.now s l.i) l.invariant _ (l.i * (e.n + 1)) r
    (plane_placed e.words.now p e.g e.n (record { xs = c.put_plane.ensures; zs = c.put_plane-2.ensures; signs = refl }) l.i (omega arith) l.out _ _
    (rest_placed l.out _ _ (l.i * (e.n + 1)) (omega (arith, length-row_text e.n (plane_row p l.i))) c.put_row.ensures))
    (omega arith) (omega (arith, length-row_text e.n (row_at e.n e.words.now (s + l.i))))
    ∙ ap (placed _ _) (texts_more e.n e.words.now s l.i)

pub returns : goal.returns
returns c =
    let e = c.args in
    let i : c.loop-i.i ≡ e.k = omega arith in
    c.loop-i.invariant ∙ ap (λ k. placed e.out.now 0 (texts_from e.n e.words.now (64 * e.g) k)) i ∙ placed_front e.out.now _
