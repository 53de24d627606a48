-- `multiply_rows::multiply` meets its contract. Assumes nothing.
use mathlib.Core.Path.{◌≡◌, refl, sym, ap, subst, ◌∙◌}
use Prim.Native.Nat.{ℕ, ◌+◌, ◌*◌, ◌/◌, ◌%◌, ◌<◌}
use native.Mathlib.Omega.{arith}
use Rattle.limits.specs.Limits.{most_qubits}
use Rattle.words.proofs.BitLaws.{bit-zero}
use Rattle.groups.specs.Parts.Rows.{row_bit}
use Rattle.packing.specs.View.{row_at}
use Rattle.multiply_rows.specs.Parts.Steps.{Keeps, Multiplied}
use Rattle.multiply_rows.specs.declared.Powers.{Powers}
use Rattle.multiply_rows.proofs.Loop.{multiply_none, multiply_more, multiply_clear, multiplying_same, letter_of, sign_of, none_there, multiplied}
use Rattle.multiply_rows.proofs.multiply.Goals as goal
use Rattle.multiply_rows.proofs.multiply.Goals.{then-x-z-eq1, else-x-z-eq1}

number : (p : ℕ) → p ≡ 64 * (p / 64) + p % 64
number p = omega arith

pub loop-j-init : goal.loop-j-init
loop-j-init c =
    multiply_none _ _ _ c.args.w.now c.told-w _ _ (λ s l. c.all-none.ensures s l ∙ bit-zero (s % 64)) (λ s l. c.all-none.ensures s l ∙ bit-zero (s % 64))

pub loop-j-preserved : goal.loop-j-preserved
loop-j-preserved c =
    let e = c.args in
    let v = c.loop-j in
    let below : v.j < most_qubits = omega (arith, c.requires.0, c.loop-j-test.true) in
    let g = e.p / 64 in
    let q = e.p % 64 in
    let gl : g < 2 = omega arith in
    let ql : q < 64 = omega arith in
    let m = row_bit e.sets.multiplied in
    let w₀ = e.w.now in
    let hi = row_bit v.counts.hi in
    let lo = row_bit v.counts.lo in
    elim c.if-x-z-eq1.branch [
      | then-x-z-eq1 d ↦
          multiplying_same
          (multiply_more _ m _ w₀ v.j v.w hi lo v.invariant below (row_bit e.sets.kept) _ _ (subst (λ (k : ℕ). Keeps k (row_bit e.sets.kept)) (number e.p) c.requires.2)
          (letter_of g q gl ql m w₀ v.j v.w hi lo v.invariant below d.splat.result d.splat-then-x-z-eq1.result _ _ d.splat.ensures d.splat-then-x-z-eq1.ensures d.all-px.ensures d.all-pz.ensures)
          d.times-counts.ensures (λ s l. refl))
          d.w-is (ap (λ (r : Powers). row_bit r.hi) d.counts-is) (ap (λ (r : Powers). row_bit r.lo) d.counts-is)
      | else-x-z-eq1 d ↦
          multiplying_same
          (multiply_clear g q gl ql m w₀ v.j v.w hi lo v.invariant below
          (none_there g q gl ql m w₀ v.j v.w hi lo v.invariant below d.if-x-z-eq1.false) d.erase.ensures)
          d.w-is (ap (λ (r : Powers). row_bit r.hi) d.counts-is) (ap (λ (r : Powers). row_bit r.lo) d.counts-is)
    ]

pub returns : goal.returns
returns c =
    let e = c.args in
    let v = c.loop-j in
    let end : v.j ≡ e.n = omega (arith, c.loop-j-test.false, v.auto.j-end) in
    let g = e.p / 64 in
    let q = e.p % 64 in
    let gl : g < 2 = omega arith in
    let ql : q < 64 = omega arith in
    let m = row_bit e.sets.multiplied in
    let w₀ = e.w.now in
    let hi = row_bit v.counts.hi in
    let lo = row_bit v.counts.lo in
    subst (λ (k : ℕ). Multiplied e.n k m (row_at e.n w₀ (most_qubits + k)) w₀ c.sign.new.w) (sym (number e.p))
    (multiplied _ m _ w₀ v.w _ e.n hi lo c.requires.0 (rw end at v.invariant) (row_bit e.sets.kept) _ _ (subst (λ (k : ℕ). Keeps k (row_bit e.sets.kept)) (number e.p) c.requires.2)
    (sign_of g q gl ql m w₀ v.j v.w hi lo v.invariant c.splat-2.result _ c.splat-2.ensures c.all-minus.ensures (omega (arith, end, c.requires.0))) (λ s l. refl) c.sign.ensures)
