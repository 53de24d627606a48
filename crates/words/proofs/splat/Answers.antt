-- `words::splat` meets its contract: a digit 0 or 1 times 64 ones has the digit in each bit. Assumes nothing.
use mathlib.Core.Path.{◌≡◌, ap, ◌∙◌}
use Prim.Native.Nat.{ℕ, zero, suc, ◌-◌, ◌*◌, ◌/◌, ◌%◌, ◌^◌, ◌<◌}
use native.Mathlib.Nat.{mod-lt, zero-lt-suc, zero-mul, one-mul}
use native.Mathlib.Omega.{arith}
use lib.Bits.{bit_and, and_mask, and_le_r}
use lib.Dec.{eqb}
use Rattle.words.specs.Bit.{bit}
use Rattle.words.proofs.BitLaws.{bit-ones, bit-zero}
use Rattle.words.proofs.splat.Goals as goal

spread_digit : (d k : ℕ) → d < 2 → k < 64 → bit k (d * (2 ^ 64 - 1)) ≡ eqb d 1
spread_digit zero k l h = ap (bit k) (zero-mul (2 ^ 64 - 1)) ∙ bit-zero k
spread_digit (suc zero) k l h = ap (bit k) (one-mul (2 ^ 64 - 1)) ∙ bit-ones 64 k h
spread_digit (suc (suc d)) k l h = absurd (omega arith)

spread : (j w k : ℕ) → k < 64 → bit k (bit_and (w / 2 ^ j) 1 * (2 ^ 64 - 1)) ≡ bit j w
unfolding bit
spread j w k h = ap (λ (m : ℕ). bit k (m * (2 ^ 64 - 1))) (and_mask (w / 2 ^ j) 1) ∙ spread_digit (w / 2 ^ j % 2) k (mod-lt (w / 2 ^ j) (zero-lt-suc 1)) h

pub overflow_mul-result : goal.overflow_mul-result
overflow_mul-result c = omega (arith, and_le_r (c.args.w / 2 ^ c.args.j) 1)

pub returns : goal.returns
returns c k l = spread c.args.j c.args.w k l
