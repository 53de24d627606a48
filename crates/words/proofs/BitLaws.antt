-- Laws of the bits of words: what each word operation does to bit k. Assumes nothing.
use mathlib.Core.Path.{◌≡◌, refl, sym, ap, ◌∙◌}
use mathlib.Core.Bool.{Bool, true, false, not, cond, ◌&&◌, ◌||◌}
use Prim.Native.Nat.{ℕ, zero, suc, ◌+◌, ◌-◌, ◌*◌, ◌/◌, ◌%◌, ◌^◌, ◌<◌}
use native.Mathlib.Nat.{mod-lt, zero-lt-suc, div_self, zero-div, mod-eq_of_lt, div-eq_of_lt, mul-mod_left, pow-suc, one-mul, div-one, le_of_suc-le-suc}
use native.Mathlib.Numerals.{one-add}
use lib.Count.{under, count_trailing_zeros}
use native.Mathlib.Decide.{dec_lt}
use native.Mathlib.Omega.{arith}
use lib.Dec.{eqb}
use borrow.Author.Tests.{eq-eqb, ne_eqb}
use lib.Pow.{pow_pos, pow-lt, pow-add, shl-shr, shr-shr}
use lib.Bits.{bit_and, bit_or, bit_xor, and_shr, or_shr, xor_shr, and_mod, or_mod, xor_mod, and_comm, and_mask, xor_add_and}
use Rattle.words.specs.Bit.{bit}
use Rattle.pauli.specs.Letters.{◌⊕◌}

-- an operation that goes digit by digit, and f on the digits 0 and 1
module _ (op : ℕ → ℕ → ℕ) (f : Bool → Bool → Bool)
    (shr : (a b k : ℕ) → op a b / 2 ^ k ≡ op (a / 2 ^ k) (b / 2 ^ k))
    (low : (a b k : ℕ) → op a b % 2 ^ k ≡ op (a % 2 ^ k) (b % 2 ^ k))
    (d00 : eqb (op 0 0) 1 ≡ f false false) (d01 : eqb (op 0 1) 1 ≡ f false true)
    (d10 : eqb (op 1 0) 1 ≡ f true false) (d11 : eqb (op 1 1) 1 ≡ f true true) where
  digit : (p q : ℕ) → p < 2 → q < 2 → eqb (op p q) 1 ≡ f (eqb p 1) (eqb q 1)
  digit zero zero hp hq = d00
  digit zero (suc zero) hp hq = d01
  digit zero (suc (suc q)) hp hq = absurd (omega arith)
  digit (suc zero) zero hp hq = d10
  digit (suc zero) (suc zero) hp hq = d11
  digit (suc zero) (suc (suc q)) hp hq = absurd (omega arith)
  digit (suc (suc p)) q hp hq = absurd (omega arith)

  bit-op : (k a b : ℕ) → bit k (op a b) ≡ f (bit k a) (bit k b)
  unfolding bit
  bit-op k a b =
      ap (λ (n : ℕ). eqb (n % 2) 1) (shr a b k)
      ∙ ap (λ (n : ℕ). eqb n 1) (low (a / 2 ^ k) (b / 2 ^ k) 1)
      ∙ digit (a / 2 ^ k % 2) (b / 2 ^ k % 2) (mod-lt (a / 2 ^ k) (zero-lt-suc 1)) (mod-lt (b / 2 ^ k) (zero-lt-suc 1))

pub bit-xor : (k a b : ℕ) → bit k (bit_xor a b) ≡ bit k a ⊕ bit k b
bit-xor = bit-op bit_xor ◌⊕◌ xor_shr xor_mod refl refl refl refl

pub bit-and : (k a b : ℕ) → bit k (bit_and a b) ≡ (bit k a && bit k b)
bit-and = bit-op bit_and ◌&&◌ and_shr and_mod refl refl refl refl

pub bit-or : (k a b : ℕ) → bit k (bit_or a b) ≡ (bit k a || bit k b)
bit-or = bit-op bit_or ◌||◌ or_shr or_mod refl refl refl refl

pub bit-zero : (k : ℕ) → bit k 0 ≡ false
unfolding bit
bit-zero k = ap (λ (n : ℕ). eqb (n % 2) 1) (zero-div (2 ^ k))

-- 2 ^ k has bit k
bit-own : (k : ℕ) → bit k (2 ^ k) ≡ true
unfolding bit
bit-own k = ap (λ (n : ℕ). eqb (n % 2) 1) (div_self (pow_pos k))

right : (a b : Bool) → (a && b) ≡ true → b ≡ true
right true b e = e
right false true e = refl
right false false e = e

-- a word of m ones has each bit below m
pub bit-ones : (m k : ℕ) → k < m → bit k (2 ^ m - 1) ≡ true
bit-ones m k h = right (bit k (2 ^ k)) _ (sym (bit-and k (2 ^ k) (2 ^ m - 1)) ∙ ap (bit k) (and_mask (2 ^ k) m ∙ mod-eq_of_lt (pow-lt h)) ∙ bit-own k)

-- all bits of a word, or none
pub all_or_none : (y : ℕ) (on : Bool) (k : ℕ) → k < 64 → y ≡ cond on (2 ^ 64 - 1) 0 → bit k y ≡ on
all_or_none y true k h e = ap (bit k) e ∙ bit-ones 64 k h
all_or_none y false k h e = ap (bit k) e ∙ bit-zero k

-- the other bits of a word of m, as the code's `!w` has it
pub bit-not : (m k w : ℕ) → k < m → w < 2 ^ m → bit k (2 ^ m - 1 - w) ≡ not (bit k w)
bit-not m k w h l =
    let e : bit_and (2 ^ m - 1) w ≡ w = and_comm (2 ^ m - 1) w ∙ and_mask w m ∙ mod-eq_of_lt l in
    let d : 2 ^ m - 1 - w ≡ bit_xor (2 ^ m - 1) w = omega (arith, e, xor_add_and (2 ^ m - 1) w) in
    ap (bit k) d ∙ bit-xor k (2 ^ m - 1) w ∙ ap (λ (b : Bool). b ⊕ bit k w) (bit-ones m k h)

-- a test of bit j, as the code's `(w >> j) & 1 == 1` has it
pub bit-clear : (j w : ℕ) → (bit_and (w / 2 ^ j) 1 ≡ 1 → ⊥) → bit j w ≡ false
unfolding bit
bit-clear j w e = ne_eqb (w / 2 ^ j % 2) 1 (λ h. e (and_mask (w / 2 ^ j) 1 ∙ h))

-- a word of one bit
bit-above : (k d : ℕ) → bit k (2 ^ (suc d + k)) ≡ false
unfolding bit
bit-above k d =
    ap (λ (n : ℕ). eqb (n / 2 ^ k % 2) 1) (pow-add 2 (suc d) k) ∙ ap (λ (n : ℕ). eqb (n % 2) 1) (shl-shr (2 ^ suc d) k)
    ∙ ap (λ (n : ℕ). eqb (n % 2) 1) (pow-suc 2 d) ∙ ap (λ (n : ℕ). eqb n 1) (mul-mod_left (2 ^ d) 2)

bit_below : (k p : ℕ) → p < k → bit k (2 ^ p) ≡ false
unfolding bit
bit_below k p h = ap (λ (n : ℕ). eqb (n % 2) 1) (div-eq_of_lt (pow-lt h))

pub bit-pow : (k p : ℕ) → bit k (2 ^ p) ≡ eqb k p
bit-pow k p = go (dec_lt k p) (dec_lt p k)
  where
    go : Dec (k < p) → Dec (p < k) → bit k (2 ^ p) ≡ eqb k p
    go (yes h) d =
        let e : p ≡ suc (p - suc k) + k = omega arith in
        ap (λ (n : ℕ). bit k (2 ^ n)) e ∙ bit-above k (p - suc k) ∙ sym (ne_eqb k p (λ q. omega arith))
    go (no m) (yes h) = bit_below k p h ∙ sym (ne_eqb k p (λ q. omega arith))
    go (no m) (no h) =
        let e : k ≡ p = omega arith in
        ap (λ (n : ℕ). bit n (2 ^ p)) e ∙ bit-own p ∙ sym (eq-eqb k p e)

-- as the code's `1 << p` has it
pub bit-shl : (k p : ℕ) → p < 64 → bit k ((1 * 2 ^ p) % 2 ^ 64) ≡ eqb k p
bit-shl k p h = ap (bit k) (ap (λ (n : ℕ). n % 2 ^ 64) (one-mul (2 ^ p)) ∙ mod-eq_of_lt (pow-lt h)) ∙ bit-pow k p

-- ---- the lowest set bit

pub bit-low : (n : ℕ) → bit 0 n ≡ eqb (n % 2) 1
unfolding bit
bit-low n = ap (λ (m : ℕ). eqb (m % 2) 1) (div-one n)

pub bit-suc : (i n : ℕ) → bit (suc i) n ≡ bit i (n / 2)
unfolding bit
bit-suc i n = ap (λ (m : ℕ). eqb (m % 2) 1) (ap (λ (j : ℕ). n / 2 ^ j) (sym (one-add i)) ∙ sym (shr-shr n 1 i))

-- below the count of trailing zeros no bit is set
pub trailing_below : (k n i : ℕ) → i < count_trailing_zeros k n → bit i n ≡ false
unfolding count_trailing_zeros
trailing_below zero n i h = absurd (omega arith)
trailing_below (suc k) n i h = go (n % 2) refl i h (trailing_below k (n / 2))
  where
    go : (d : ℕ) → n % 2 ≡ d → (i : ℕ) → i < under d (count_trailing_zeros k (n / 2)) → ((i : ℕ) → i < count_trailing_zeros k (n / 2) → bit i (n / 2) ≡ false) → bit i n ≡ false
    go zero e zero h ih = bit-low n ∙ ap (λ (d : ℕ). eqb d 1) e
    go zero e (suc i) h ih = bit-suc i n ∙ ih i (le_of_suc-le-suc h)
    go (suc d) e i h ih = absurd (omega arith)

-- and at it one is, if there is any
pub trailing_at : (k n : ℕ) → count_trailing_zeros k n < k → bit (count_trailing_zeros k n) n ≡ true
unfolding count_trailing_zeros
trailing_at zero n h = absurd (omega arith)
trailing_at (suc k) n h = go (n % 2) refl (mod-lt n (zero-lt-suc 1)) h (trailing_at k (n / 2))
  where
    go : (d : ℕ) → n % 2 ≡ d → n % 2 < 2 → under d (count_trailing_zeros k (n / 2)) < suc k
        → (count_trailing_zeros k (n / 2) < k → bit (count_trailing_zeros k (n / 2)) (n / 2) ≡ true) → bit (under d (count_trailing_zeros k (n / 2))) n ≡ true
    go zero e l h ih = bit-suc (count_trailing_zeros k (n / 2)) n ∙ ih (le_of_suc-le-suc h)
    go (suc zero) e l h ih = bit-low n ∙ ap (λ (d : ℕ). eqb d 1) e
    go (suc (suc d)) e l h ih = absurd (omega arith)
