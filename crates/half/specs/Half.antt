-- One half to the power k as a double: document 02, request h, "stated of its 64 bits: sign and fraction zero, exponent field 1,023 less k". Assumes nothing.
use Rattle.std.specs.Prelude.{◌≡◌, ℕ, ◌+◌, ◌-◌, ◌*◌, ◌^◌, false, Float}
use Rattle.std.specs.Float.{fin, binary64}
use Rattle.std.specs.Float.Ieee.{to_bits, minus}

-- `fin false m e` is m times 2 to the power e, so this is 2 to the power 0 - k
abbrev pub half_power : ℕ → Float
half_power k = fin false 1 (minus 0 k)

-- the 64 bits of a double as one number: the sign stands highest, then the exponent field of 11 bits, then the fraction of 52 bits
abbrev pub double_bits : ℕ → ℕ → ℕ → ℕ
double_bits sign exponent fraction = sign * 2 ^ 63 + exponent * 2 ^ 52 + fraction

-- sign and fraction zero, exponent field 1,023 less k
abbrev pub half_bits : ℕ → ℕ
half_bits k = double_bits 0 (1023 - k) 0

-- x is one half to the power k: by its value, and by its 64 bits
pub record Halved (k : ℕ) (x : Float) : Type 0 where
  pub value : x ≡ half_power k
  pub bits : to_bits binary64 x ≡ half_bits k
