-- Powers of i that are counted by numbers: sums of bits in words, and the sign of the total. Assumes nothing.
use mathlib.Core.Path.{◌≡◌, refl, sym, ap, ap₂, ◌∙◌}
use mathlib.Core.Bool.{Bool, true, false, ◌&&◌, and-true, and-false}
use mathlib.Core.List.{[], ◌∷◌}
use Prim.Native.Nat.{ℕ, zero, suc, ◌*◌, ◌/◌, ◌%◌, ◌^◌, ◌<◌, ◌+◌}
use native.Mathlib.Nat.{mod-lt, zero-lt-suc, pow-suc, add-suc, add-zero, mul-zero, mul-add}
use native.Mathlib.Omega.{arith}
use lib.Count.{ones, ones_step}
use lib.Dec.{eqb}
use lib.Pow.{shr_lt}
use Rattle.pauli.specs.Letters.{Power, i0, next, ◌⊕◌, ◌⊞◌, sign}
use Rattle.pauli.specs.Rows.{odd_number, sum_powers, minus_sign}
use Rattle.pauli.specs.Sums.{sum}
use Rattle.pauli.proofs.Cases as cases
use Rattle.pauli.proofs.Sums.{sum-map}
use Rattle.pauli.proofs.LetterLaws.{sign_plus}
use Rattle.words.specs.Bit.{bit}
use Rattle.words.proofs.BitLaws.{bit-low, bit-suc}
use Rattle.measure_fixed.specs.Parts.Column.{count, power_of, three}

-- ---- the power of a sum

next_add : (p q : Power) → next (p ⊞ q) ≡ p ⊞ next q
next_add = cases.tested (cases.pow ∷ cases.pow ∷ []) cases.pow _ _ tt

right : (p : Power) → p ≡ p ⊞ i0
right = cases.tested (cases.pow ∷ []) cases.pow _ _ tt

pub power_add : (a b : ℕ) → power_of (a + b) ≡ power_of a ⊞ power_of b
unfolding power_of
power_add a zero = rw (add-zero a) (right (power_of a))
power_add a (suc b) = rw (add-suc a b, power_add a b) (next_add (power_of a) (power_of b))

-- ---- the sign of a number of quarter turns

round : (p : Power) → minus_sign (next (next (next (next p)))) ≡ minus_sign p
round = cases.tested (cases.pow ∷ []) cases.bit _ _ tt

pub minus_power : (n : ℕ) → minus_sign (power_of n) ≡ eqb (n / 2 % 2) 1
unfolding power_of
minus_power zero = refl
minus_power (suc zero) = refl
minus_power (suc (suc zero)) = refl
minus_power (suc (suc (suc zero))) = refl
minus_power (suc (suc (suc (suc n)))) =
    let e : n / 2 % 2 ≡ suc (suc (suc (suc n))) / 2 % 2 = omega arith in
    round (power_of n) ∙ minus_power n ∙ ap (λ (d : ℕ). eqb d 1) e

-- ---- the bits of a word

count_digit : (d : ℕ) → d < 2 → d ≡ count (eqb d 1)
count_digit zero h = refl
count_digit (suc zero) h = refl
count_digit (suc (suc d)) h = absurd (omega arith)

sum_low : (f : ℕ → ℕ) (k : ℕ) → sum 0 ◌+◌ f (suc k) ≡ f 0 + sum 0 ◌+◌ (λ r. f (suc r)) k
sum_low f zero = omega arith
sum_low f (suc k) = omega (arith, sum_low f k)

sum_same : (f g : ℕ → ℕ) (k : ℕ) → ((r : ℕ) → f r ≡ g r) → sum 0 ◌+◌ f k ≡ sum 0 ◌+◌ g k
sum_same f g zero h = refl
sum_same f g (suc k) h = ap₂ ◌+◌ (sum_same f g k h) (h k)

ones_sum : (k n : ℕ) → n < 2 ^ k → ones n ≡ sum 0 ◌+◌ (λ r. count (bit r n)) k
unfolding ones
ones_sum zero n h = none n h
  where
    none : (n : ℕ) → n < 1 → ones n ≡ 0
    none zero h = refl
    none (suc n) h = absurd (omega arith)
ones_sum (suc k) n h =
    ones_step n
    ∙ ap₂ ◌+◌ (count_digit (n % 2) (mod-lt n (zero-lt-suc 1)) ∙ ap count (sym (bit-low n)))
    (ones_sum k (n / 2) (omega (arith, h, pow-suc 2 k)) ∙ sum_same _ _ k (λ r. ap count (sym (bit-suc r n))))
    ∙ sym (sum_low (λ r. count (bit r n)) k)

-- the power that a word's bits give, at c for each
weighted : (c k n : ℕ) → n < 2 ^ k → power_of (c * ones n) ≡ sum_powers (λ r. power_of (c * count (bit r n))) k
unfolding power_of
weighted c k n h =
    ap (λ (m : ℕ). power_of (c * m)) (ones_sum k n h)
    ∙ sum-map 0 ◌+◌ i0 ◌⊞◌ (λ m. power_of (c * m)) (nothing c) (λ a b. both c a b) (λ r. count (bit r n)) k
  where
    nothing : (c : ℕ) → power_of (c * 0) ≡ i0
    nothing c = rw mul-zero

    both : (c a b : ℕ) → power_of (c * (a + b)) ≡ power_of (c * a) ⊞ power_of (c * b)
    both c a b = rw mul-add (power_add (c * a) (c * b))

pub three_count : (b : Bool) → power_of (3 * count b) ≡ three b
unfolding power_of
three_count true = refl
three_count false = refl

two_count : (b : Bool) → power_of (2 * count b) ≡ sign b
unfolding power_of
two_count true = refl
two_count false = refl

pub threes : (k n : ℕ) → n < 2 ^ k → power_of (3 * ones n) ≡ sum_powers (λ r. three (bit r n)) k
threes k n h = weighted 3 k n h ∙ (λ i. sum_powers (λ r. three_count (bit r n) i) k)

pub twos : (k n : ℕ) → n < 2 ^ k → power_of (2 * ones n) ≡ sum_powers (λ r. sign (bit r n)) k
twos k n h = weighted 2 k n h ∙ (λ i. sum_powers (λ r. two_count (bit r n) i) k)

pub twos_odd : (k n : ℕ) → n < 2 ^ k → power_of (2 * ones n) ≡ sign (odd_number (λ r. bit r n) k)
twos_odd k n h = twos k n h ∙ sym (sum-map false ◌⊕◌ i0 ◌⊞◌ sign refl sign_plus (λ r. bit r n) k)

-- `w >> 63`
top_bit : (w : ℕ) → w < 2 ^ 64 → w / 2 ^ 63 ≡ count (bit 63 w)
unfolding bit
top_bit w h =
    let l : w / 2 ^ 63 < 2 = shr_lt 1 63 h in
    let e : w / 2 ^ 63 ≡ w / 2 ^ 63 % 2 = omega arith in
    e ∙ count_digit (w / 2 ^ 63 % 2) (mod-lt (w / 2 ^ 63) (zero-lt-suc 1))

-- `w >> 63 == 1`
top_set : (w : ℕ) → w / 2 ^ 63 ≡ 1 → bit 63 w ≡ true
unfolding bit
top_set w e = ap (λ (d : ℕ). eqb (d % 2) 1) e

top_clear : (w : ℕ) → w < 2 ^ 64 → (w / 2 ^ 63 ≡ 1 → ⊥) → bit 63 w ≡ false
top_clear w h e = go (bit 63 w) (top_bit w h)
  where
    go : (b : Bool) → w / 2 ^ 63 ≡ count b → b ≡ false
    go true f = absurd (e f)
    go false f = refl

-- the top bit of q, where p has its own; and 0 where it has not
pub both_set : (b : Bool) (q p : ℕ) → q < 2 ^ 64 → bit 63 q ≡ b → p / 2 ^ 63 ≡ 1 → q / 2 ^ 63 ≡ count (b && bit 63 p)
both_set b q p h e f = top_bit q h ∙ ap count (e ∙ sym (and-true b) ∙ ap (λ (c : Bool). b && c) (sym (top_set p f)))

pub both_clear : (b : Bool) (p : ℕ) → p < 2 ^ 64 → (p / 2 ^ 63 ≡ 1 → ⊥) → 0 ≡ count (b && bit 63 p)
both_clear b p h f = ap count (sym (and-false b) ∙ ap (λ (c : Bool). b && c) (sym (top_clear p h f)))
