-- `measure_random::settle` meets its contract. Assumes nothing.
use mathlib.Core.Path.{ap, ap₂, ◌∙◌}
use mathlib.Core.Bool.{Bool, ◌&&◌}
use Prim.Native.Nat.{◌%◌}
use native.Mathlib.Nat.{mod-lt, zero-lt-suc}
use Rattle.words.proofs.BitLaws.{all_or_none}
use Rattle.pauli.specs.Letters.{◌⊕◌}
use Rattle.groups.specs.Parts.Rows.{row_bit}
use Rattle.measure_random.proofs.Settling.{settled_by}
use Rattle.measure_random.proofs.settle.Goals as goal

pub returns : goal.returns
returns c =
    let a = c.args in
    settled_by a.a c.requires (row_bit a.own) a.coin c.store.ensures c.store-2.ensures
    (λ s l. c.bitxor-z.ensures s l ∙ ap (λ (b : Bool). b ⊕ row_bit a.own s) (c.load.ensures s l))
    (λ s l. c.bitxor-signs.ensures s l
    ∙ ap₂ ◌⊕◌ (c.load-2.ensures s l) (c.bitand-minus.ensures s l
    ∙ ap (λ (b : Bool). row_bit a.own s && b) (c.all.ensures s l ∙ all_or_none _ a.coin (s % 64) (mod-lt s (zero-lt-suc 63)) c.select_unpredictable.ensures)))
