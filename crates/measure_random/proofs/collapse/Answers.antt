-- `measure_random::collapse` meets its contract. Assumes nothing.
use mathlib.Core.Path.{refl, ◌≡◌, ap, ap₂, ◌∙◌}
use mathlib.Core.Bool.{not, ◌&&◌}
use Prim.Native.Nat.{◌*◌, ◌%◌, ◌<◌}
use native.Mathlib.Omega.{arith}
use lib.Dec.{eqb}
use Rattle.limits.specs.Limits.{most_qubits}
use Rattle.pauli.specs.Letters.{◌⊕◌}
use Rattle.packing.specs.View.{bit_at}
use Rattle.groups.specs.Parts.Rows.{row_bit, All}
use Rattle.multiply_rows.specs.Parts.Steps.{Keeps}
use Rattle.measure_random.proofs.Whole.{both_rows, held, whole}
use Rattle.measure_random.proofs.collapse.Goals as goal
use Rattle.measure_random.proofs.collapse.Goals.{After-bitxor-multiplied}

below : (c : After-bitxor-multiplied) → c.args.p < most_qubits
below c = omega (arith, c.args.rows.now.few, c.requires.1)

-- all rows but the two of number p
kept : (c : After-bitxor-multiplied) → Keeps c.args.p (row_bit c.not-kept.result)
kept c s l = c.not-kept.ensures s l ∙ ap not (c.bitxor.ensures s l ∙ ap₂ ◌⊕◌ (c.row-partner.ensures s l) (c.row-own.ensures s l) ∙ both_rows s c.args.p l (below c))

-- those with X or Y at a, and the partner
multiplied : (c : After-bitxor-multiplied) → All (λ s. row_bit c.bitxor-multiplied.result s ≡ (bit_at c.args.rows.now.words (8 * c.args.a) s && not (eqb (s % most_qubits) c.args.p)) ⊕ eqb s c.args.p)
multiplied c s l = c.bitxor-multiplied.ensures s l ∙ ap₂ ◌⊕◌ (c.bitand.ensures s l ∙ ap₂ ◌&&◌ (c.load-x.ensures s l) (kept c s l)) (c.row-partner.ensures s l)

pub multiply-requires : goal.multiply-requires
multiply-requires c = (c.args.rows.now.few, below (goal.at.multiply-requires c).After-bitxor-multiplied, kept (goal.at.multiply-requires c).After-bitxor-multiplied)

pub invariant_of-rows : goal.invariant_of-rows
invariant_of-rows c =
    let r = c.args.rows.now in
    record {
      few = r.few;
      holds = held r.qubits c.args.a c.args.p r.few c.requires.0 c.requires.1 c.args.coin _ _ r.words _ _ (multiplied (goal.at.invariant_of-rows c).After-bitxor-multiplied) c.row-own.ensures c.multiply.ensures c.settle.ensures r.holds;
    }

pub returns : goal.returns
returns c =
    let r = c.args.rows.now in
    (refl, whole r.qubits c.args.a c.args.p r.few c.requires.0 c.requires.1 c.args.coin _ _ r.words _ _ (multiplied (goal.at.returns c).After-bitxor-multiplied) c.row-own.ensures c.multiply.ensures c.settle.ensures)
