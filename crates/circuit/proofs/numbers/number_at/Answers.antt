-- `circuit::number_at` meets its contract. The invariant: the number at `at` is what the digits from `next` on make of the value so far. Assumes nothing.
use native.Mathlib.Omega.{arith}
use mathlib.Core.Path.{◌≡◌, sym}
use Prim.Native.Nat.{◌+◌, ◌-◌}
use Rattle.circuit.proofs.Digits.{digit_at, number_zero, begun, more, stopped, below_thousand}
use Rattle.circuit.proofs.numbers.number_at.Goals as goal

pub returns-then-first-eq0 : goal.returns-then-first-eq0
returns-then-first-eq0 c = number_zero _ _ _ (digit_at _ _ _ c.in_ok-first.ensures) c.if-first-eq0.true

pub loop-next-init : goal.loop-next-init
loop-next-init c =
    let e : c.args.at + 3 - (c.args.at + 1) ≡ 2 = omega arith in
    rw e (begun _ _ _ (digit_at _ _ _ c.in_ok-first.ensures) c.if-first-eq0.false)

pub overflow_mul-value : goal.overflow_mul-value
overflow_mul-value c = omega (arith, below_thousand _ _ c.loop-next.invariant.small)

pub overflow_add-value : goal.overflow_add-value
overflow_add-value c = omega (arith, below_thousand _ _ c.loop-next.invariant.small, digit_at c.args.s.now c.loop-next.next _ c.in-Some.ensures)

pub loop-next-preserved : goal.loop-next-preserved
loop-next-preserved c =
    let e : c.args.at + 3 - (c.loop-next.next + 1) ≡ c.args.at + 3 - c.loop-next.next - 1 = omega arith in
    rw e (more _ _ _ _ _ _ c.loop-next.invariant (omega arith) (digit_at _ _ _ c.in-Some.ensures))

pub returns-in-None : goal.returns-in-None
returns-in-None c = stopped _ _ _ _ _ c.loop-next.invariant (sym c.in-None.ensures)
