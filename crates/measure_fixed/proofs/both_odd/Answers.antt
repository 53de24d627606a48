-- `measure_fixed::both_odd` meets its contract: the top bit of a word of parities is the parity of all bits. Assumes nothing.
use native.Mathlib.Omega.{arith}
use Rattle.pauli.specs.Rows.{odd_number}
use Rattle.words.specs.Bit.{bit}
use Rattle.measure_fixed.proofs.Counts.{both_set, both_clear}
use Rattle.measure_fixed.proofs.both_odd.Goals as goal

pub returns-then-p-eq1 : goal.returns-then-p-eq1
returns-then-p-eq1 c = (omega (arith, c.parities.type_inv), both_set (odd_number (λ i. bit i c.args.x) 64) c.parities.result c.args.p (omega (arith, c.parities.type_inv)) (c.parities.ensures 63 (omega arith)) c.if-p-eq1.true)

pub returns-else-p-eq1 : goal.returns-else-p-eq1
returns-else-p-eq1 c = (omega arith, both_clear (odd_number (λ i. bit i c.args.x) 64) c.args.p c.ranges.p.fits c.if-p-eq1.false)
