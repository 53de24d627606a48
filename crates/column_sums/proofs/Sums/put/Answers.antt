-- `column_sums::Sums::put` meets its contract. Assumes nothing.
use mathlib.Core.Path.{sym, ap₂, ◌∙◌}
use native.Mathlib.Omega.{arith}
use Rattle.pauli.specs.Letters.{◌⊕◌}
use Rattle.packing.specs.View.{letter_at}
use Rattle.column_sums.proofs.Tables.{four_more, none_differs}
use Rattle.column_sums.proofs.Sums.put.Goals as goal

pub loop-e-preserved : goal.loop-e-preserved
loop-e-preserved c =
    let v = c.loop-e in
    let a = c.args in
    let r = c.differing-s in (
      v.invariant.0,
      four_more a.w.now a.self.now.half a.j v.e c.loop-e-test.true _ _ _ _ (omega (arith, a.self.now.most)) v.invariant.1
          (λ s l. r.ensures s l ∙ sym (none_differs (letter_at a.w.now s a.j) _))
          (λ s l. c.bitxor.ensures s l ∙ ap₂ ◌⊕◌ (c.differing-x.ensures s l) (r.ensures s l))
          (λ s l. c.bitxor-in-loop-e.ensures s l ∙ ap₂ ◌⊕◌ (c.differing-z.ensures s l) (r.ensures s l))
          (λ s l. c.bitxor-in-loop-e-2.ensures s l ∙ ap₂ ◌⊕◌ (c.differing-y.ensures s l) (r.ensures s l)),
    )
