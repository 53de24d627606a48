-- The bits of shifted words, and of a word that has the parities of another. Assumes nothing.
use mathlib.Core.Path.{◌≡◌, sym, ap, ◌∙◌}
use mathlib.Core.Bool.{Bool, false}
use mathlib.Core.List.{[], ◌∷◌}
use Prim.Native.Nat.{ℕ, suc, ◌+◌, ◌-◌, ◌*◌, ◌/◌, ◌%◌, ◌^◌, ◌≤◌, ◌<◌}
use native.Mathlib.Nat.{mul_assoc, mul-mod_left, pow-suc, div-eq_of_lt, lt_of_lt_of_le}
use native.Mathlib.Decide.{dec_lt}
use native.Mathlib.Numerals.{add-one}
use native.Mathlib.Omega.{arith}
use lib.Bits.{bit_xor}
use lib.Dec.{eqb}
use lib.Pow.{pow-add, pow_mono, shl-shr, shr-shr, field, mod-mod-pow}
use Rattle.pauli.specs.Letters.{◌⊕◌}
use Rattle.pauli.specs.Rows.{odd_number}
use Rattle.pauli.proofs.Cases as cases
use Rattle.words.specs.Bit.{bit}
use Rattle.words.proofs.BitLaws.{bit-xor}

-- the cut to 64 bits keeps the bits below 64
cut : (k n : ℕ) → k < 64 → bit k (n % 2 ^ 64) ≡ bit k n
unfolding bit
cut k n h =
    let e : 64 ≡ suc (63 - k) + k = omega arith in
    ap (λ (m : ℕ). eqb (n % 2 ^ m / 2 ^ k % 2) 1) e
    ∙ ap (λ (m : ℕ). eqb (m % 2) 1) (field n (suc (63 - k)) k)
    ∙ ap (λ (m : ℕ). eqb (n / 2 ^ k % 2 ^ m % 2) 1) (sym (add-one (63 - k)))
    ∙ ap (λ (m : ℕ). eqb m 1) (mod-mod-pow (n / 2 ^ k) (63 - k) 1)

up : (d s w : ℕ) → bit (s + d) (w * 2 ^ s) ≡ bit d w
unfolding bit
up d s w = ap (λ (m : ℕ). eqb (m % 2) 1) (sym (shr-shr (w * 2 ^ s) s d) ∙ ap (λ (m : ℕ). m / 2 ^ d) (shl-shr w s))

under : (k d w : ℕ) → bit k (w * 2 ^ (suc d + k)) ≡ false
unfolding bit
under k d w =
    ap (λ (m : ℕ). eqb (w * m / 2 ^ k % 2) 1) (pow-add 2 (suc d) k) ∙ ap (λ (m : ℕ). eqb (m / 2 ^ k % 2) 1) (sym (mul_assoc w (2 ^ suc d) (2 ^ k)))
    ∙ ap (λ (m : ℕ). eqb (m % 2) 1) (shl-shr (w * 2 ^ suc d) k)
    ∙ ap (λ (m : ℕ). eqb (w * m % 2) 1) (pow-suc 2 d) ∙ ap (λ (m : ℕ). eqb (m % 2) 1) (sym (mul_assoc w (2 ^ d) 2)) ∙ ap (λ (m : ℕ). eqb m 1) (mul-mod_left (w * 2 ^ d) 2)

-- bit k of `w << s`
shl_above : (k s w : ℕ) → k < 64 → s ≤ k → bit k ((w * 2 ^ s) % 2 ^ 64) ≡ bit (k - s) w
shl_above k s w h l =
    let e : k ≡ s + (k - s) = omega arith in
    cut k (w * 2 ^ s) h ∙ ap (λ (m : ℕ). bit m (w * 2 ^ s)) e ∙ up (k - s) s w

shl_below : (k s w : ℕ) → k < 64 → k < s → bit k ((w * 2 ^ s) % 2 ^ 64) ≡ false
shl_below k s w h l =
    let e : s ≡ suc (s - suc k) + k = omega arith in
    cut k (w * 2 ^ s) h ∙ ap (λ (m : ℕ). bit k (w * 2 ^ m)) e ∙ under k (s - suc k) w

-- bit k of `w >> s`
pub shr_at : (k s w : ℕ) → bit k (w / 2 ^ s) ≡ bit (s + k) w
unfolding bit
shr_at k s w = ap (λ (m : ℕ). eqb (m % 2) 1) (shr-shr w s k)

-- a word below 2 ^ m has no bit from m on
bit-over : (m k w : ℕ) → w < 2 ^ m → m ≤ k → bit k w ≡ false
unfolding bit
bit-over m k w hw l = ap (λ (n : ℕ). eqb (n % 2) 1) (div-eq_of_lt (lt_of_lt_of_le hw (pow_mono l)))

-- ---- parities

-- bit k of w is the parity of the m bits of z that end at k
pub Window : ℕ → ℕ → ℕ → Type 0
Window m w z = (k : ℕ) → k < 64 → bit k w ≡ odd_number (λ i. bit i z) (suc k) ⊕ odd_number (λ i. bit i z) (suc k - m)

join : (a b c : Bool) → (a ⊕ b) ⊕ (b ⊕ c) ≡ a ⊕ c
join = cases.tested (cases.bit ∷ cases.bit ∷ cases.bit ∷ []) cases.bit _ _ tt

xor_false : (a : Bool) → a ⊕ false ≡ a
xor_false = cases.tested (cases.bit ∷ []) cases.bit _ _ tt

xor_twice : (a b : Bool) → b ≡ (a ⊕ b) ⊕ a
xor_twice = cases.tested (cases.bit ∷ cases.bit ∷ []) cases.bit _ _ tt

pub window_one : (z : ℕ) → Window 1 z z
unfolding Window
window_one z k h =
    let e : suc k - 1 ≡ k = omega arith in
    rw e (xor_twice (odd_number (λ i. bit i z) k) (bit k z))

pub window_more : (m w z : ℕ) → Window m w z → Window (m + m) (bit_xor w ((w * 2 ^ m) % 2 ^ 64)) z
unfolding Window
window_more m w z i k h = bit-xor k w ((w * 2 ^ m) % 2 ^ 64) ∙ go (dec_lt k m)
  where
    par : ℕ → Bool
    par = odd_number (λ i. bit i z)

    go : Dec (k < m) → bit k w ⊕ bit k ((w * 2 ^ m) % 2 ^ 64) ≡ par (suc k) ⊕ par (suc k - (m + m))
    go (yes l) =
        let e : suc k - m ≡ suc k - (m + m) = omega arith in
        rw (shl_below k m w h l, i k h, e) (xor_false _)
    go (no l) =
        let e : suc (k - m) - m ≡ suc k - (m + m) = omega arith in
        let f : suc k - m ≡ suc (k - m) = omega arith in
        rw (shl_above k m w h (omega arith), i k h, i (k - m) (omega arith), f, e) (join (par (suc k)) (par (suc (k - m))) (par (suc k - (m + m))))

pub window_all : (w z : ℕ) → Window 64 w z → (k : ℕ) → k < 64 → bit k w ≡ odd_number (λ i. bit i z) (suc k)
unfolding Window
window_all w z i k h =
    let e : suc k - 64 ≡ 0 = omega arith in
    i k h ∙ ap (λ (n : ℕ). odd_number (λ i. bit i z) (suc k) ⊕ odd_number (λ i. bit i z) n) e ∙ xor_false (odd_number (λ i. bit i z) (suc k))
