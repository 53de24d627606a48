-- The bits with the exponent field 1023 - k and nothing else set stand for one half to the power k, and a double of that value has these bits. Assumes nothing.
use mathlib.Core.Path.{◌≡◌, sym, ap, ◌∙◌, subst}
use Prim.Native.Nat.{ℕ, zero, suc, ◌+◌, ◌-◌, ◌/◌, ◌%◌, ◌≤◌, ◌<◌}
use native.Mathlib.Omega.{arith}
use mathlib.Core.HLevel.{is_prop→PathP}
use Rattle.std.proofs.Props.{props}
use mathlib.Core.Bool.{Bool, false, not, cond}
use lib.IntN.{ℤ, pos, negsuc}
use lib.Dec.{T}
use borrow.Author.Tests.{lt-leb, ne_eqb}
use lib.Ieee.{Float, inf, fin, binary64, of_bits, of_fields, minus, is_nan, nan_bits, odd}
use lib.Count.{count_trailing_zeros}
use lib.Ieee.Bits.{to_bits-of_bits, nan_bits_is}
use Rattle.limits.specs.Limits.{most_halvings}
use Rattle.half.specs.declared.Likelihood.{Likelihood}
use Rattle.half.specs.Half.{half_power, half_bits, Halved}
use Rattle.half.specs.Tied.{Tied}

-- the fields of the bits: an exponent field of x + 1, and a fraction of 0
not_ones : (x : ℕ) → x ≤ 1022 → suc x ≡ 2047 → ⊥
not_ones x h e = omega arith

fields_at : (x : ℕ) → x ≤ 1022 → of_fields binary64 false (suc x) 0 ≡ fin false 1 (minus (x + 52) 1074)
unfolding of_fields odd count_trailing_zeros
fields_at x h = ap (λ (b : Bool). cond b (inf false) (fin false 1 (minus (x + 52) 1074))) (ne_eqb (suc x) 2047 (not_ones x h))

exponent_at : (x k : ℕ) → x + k ≡ 1022 → minus (x + 52) 1074 ≡ minus 0 k
exponent_at x zero h = ap (λ (n : ℕ). minus (n + 52) 1074) (the x h)
  where
    the : (x : ℕ) → x + 0 ≡ 1022 → x ≡ 1022
    the x h = omega arith
exponent_at x (suc j) h =
    ap (λ (b : Bool). cond b (pos (x + 52 - 1074)) (negsuc (1074 - suc (x + 52)))) (lt-leb 1074 (x + 52) (omega arith))
    ∙ ap negsuc (left x j h)
    ∙ sym (ap (λ (b : Bool). cond b (pos (0 - suc j)) (negsuc (suc j - 1))) (lt-leb (suc j) 0 (omega arith)))
  where
    left : (x j : ℕ) → x + suc j ≡ 1022 → 1074 - suc (x + 52) ≡ suc j - 1
    left x j h = omega arith

small : (k : ℕ) → half_bits k < 9223372036854775808
small k = omega arith

field : (k : ℕ) → k ≤ most_halvings → half_bits k % 9223372036854775808 / 4503599627370496 ≡ suc (1022 - k)
field k h = omega arith

no_fraction : (k : ℕ) → half_bits k % 4503599627370496 ≡ 0
no_fraction k = omega arith

rest : (k : ℕ) → k ≤ most_halvings → 1022 - k + k ≡ 1022
rest k h = omega arith

value_at : (k : ℕ) → k ≤ most_halvings → of_bits binary64 (half_bits k) ≡ half_power k
unfolding of_bits
value_at k h =
    ap (λ (b : Bool). of_fields binary64 b (half_bits k % 9223372036854775808 / 4503599627370496) (half_bits k % 4503599627370496)) (lt-leb 9223372036854775808 (half_bits k) (small k))
    ∙ ap (λ (x : ℕ). of_fields binary64 false x (half_bits k % 4503599627370496)) (field k h)
    ∙ ap (λ (t : ℕ). of_fields binary64 false (suc (1022 - k)) t) (no_fraction k)
    ∙ fields_at (1022 - k) (omega arith)
    ∙ ap (λ (e : ℤ). fin false 1 e) (exponent_at (1022 - k) k (rest k h))

-- it is a number, so its bits are defined
half_is_number : (k : ℕ) → T (not (is_nan (half_power k)))
unfolding is_nan
half_is_number k = tt

pub is_number : (k : ℕ) (x : Float) → x ≡ half_power k → T (not (is_nan x))
is_number k x e = subst (λ (y : Float). T (not (is_nan y))) (sym e) (half_is_number k)

pub no_nan : (k : ℕ) → k ≤ most_halvings → T (not (nan_bits binary64 (half_bits k)))
no_nan k h = subst (λ (b : Bool). T (not b)) (sym (nan_bits_is binary64 (half_bits k))) (is_number k (of_bits binary64 (half_bits k)) (value_at k h))

below_all : (k : ℕ) → half_bits k < 18446744073709551616
below_all k = omega arith

pub halved_at : (k : ℕ) → k ≤ most_halvings → Halved k (of_bits binary64 (half_bits k))
halved_at k h = record {
  value = value_at k h;
  bits = to_bits-of_bits binary64 (half_bits k) (below_all k) (is_number k (of_bits binary64 (half_bits k)) (value_at k h));
}

-- a number and a double are tied in one way at most
halved_prop : (k : ℕ) (x : Float) → IsProp (Halved k x)
halved_prop k x = hlevel props

-- the promise leaves no choice: k and its double are one value
pub tied_one : (k : ℕ) (l m : Likelihood) → Tied k l → Tied k m → l ≡ m
tied_one k l m t u =
    let e : l.k ≡ m.k = t.same ∙ sym u.same in
    let v : l.probability ≡ m.probability = t.halved.value ∙ ap half_power e ∙ sym u.halved.value in
    λ i. record { k = e i; probability = v i; halved = is_prop→PathP (λ j. Halved (e j) (v j)) (λ j. halved_prop (e j) (v j)) l.halved m.halved i }
