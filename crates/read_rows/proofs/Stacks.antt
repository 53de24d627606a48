-- Words with a bit for each row, built bit by bit. Assumes nothing.
use mathlib.Core.Path.{◌≡◌, refl, ◌∙◌, ap, ap₂}
use mathlib.Core.Bool.{Bool, true, false, ◌&&◌, and-true, and-false}
use mathlib.Core.List.{[], ◌∷◌}
use Prim.Native.Nat.{ℕ, zero, suc, ◌+◌, ◌*◌, ◌%◌, ◌^◌, ◌<◌}
use native.Mathlib.Decide.{dec_lt}
use native.Mathlib.Nat.{zero-mul, zero-mod}
use native.Mathlib.Omega.{arith}
use lib.Bits.{bit_xor}
use lib.Dec.{eqb, ltb}
use lib.ListN.{get_or, replicate}
use mir.Val.{bool_byte}
use borrow.Author.Tests.{lt-ltb, le-ltb, eq-eqb, ne_eqb}
use Rattle.pauli.specs.Letters.{◌⊕◌}
use Rattle.pauli.proofs.Cases as cases
use Rattle.words.specs.Bit.{bit}
use Rattle.words.proofs.BitLaws.{bit-xor, bit-zero, bit-shl}
use Rattle.read_rows.specs.Parts.Loading.{Built}

-- ---- a word, bit by bit

pub built_none : (f : ℕ → Bool) → Built f 0 0
built_none f k = rw (bit-zero k, le-ltb k 0 (omega arith))

one_bit : (b : Bool) (k i : ℕ) → i < 64 → bit k ((bool_byte b * 2 ^ i) % 2 ^ 64) ≡ (b && eqb k i)
one_bit true k i h = bit-shl k i h
one_bit false k i h = ap (bit k) (ap (λ (n : ℕ). n % 2 ^ 64) (zero-mul (2 ^ i)) ∙ zero-mod (2 ^ 64)) ∙ bit-zero k

-- bit i comes to the first i
pub next_bit : (f : ℕ → Bool) (k i : ℕ) → (ltb k i && f k) ⊕ (f i && eqb k i) ≡ (ltb k (i + 1) && f k)
next_bit f k i = go (dec_lt k i) (dec_lt i k)
  where
    same : (b : Bool) → b ⊕ false ≡ b
    same = cases.tested (cases.bit ∷ []) cases.bit _ _ tt

    go : Dec (k < i) → Dec (i < k) → (ltb k i && f k) ⊕ (f i && eqb k i) ≡ (ltb k (i + 1) && f k)
    go (yes h) d = rw (lt-ltb k i h, lt-ltb k (i + 1) (omega arith), ne_eqb k i (λ e. omega arith), and-false (f i)) (same (f k))
    go (no g) (yes h) = rw (le-ltb k i (omega arith), le-ltb k (i + 1) (omega arith), ne_eqb k i (λ e. omega arith)) (and-false (f i))
    go (no g) (no h) =
        let e : k ≡ i = omega arith in
        rw (e, le-ltb i i (omega arith), lt-ltb i (i + 1) (omega arith), eq-eqb i i refl) (and-true (f i))

pub built_more : (f : ℕ → Bool) (i w t : ℕ) (b : Bool) → i < 64 → Built f i w → t ≡ bool_byte b → b ≡ f i → Built f (i + 1) (bit_xor w ((t * 2 ^ i) % 2 ^ 64))
built_more f i w t b h a u e k =
    bit-xor k w _ ∙ ap₂ ◌⊕◌ (a k) (ap (λ (n : ℕ). bit k ((n * 2 ^ i) % 2 ^ 64)) u ∙ one_bit b k i h ∙ ap (λ (c : Bool). c && eqb k i) e) ∙ next_bit f k i

-- bytes or words that are all zero
pub zeros : (n k : ℕ) → get_or {A = ℕ} (replicate n 0) k 0 ≡ 0
zeros zero k = refl
zeros (suc n) zero = refl
zeros (suc n) (suc k) = zeros n k
