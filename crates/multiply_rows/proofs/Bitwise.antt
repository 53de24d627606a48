-- What the bit operations of one column do to a letter, a count and a sign. Assumes nothing.
use mathlib.Core.Path.{◌≡◌, sym, ap, ◌∙◌}
use mathlib.Core.Bool.{Bool, false, not, ◌&&◌, ◌||◌, cond}
use mathlib.Core.List.{[], ◌∷◌}
use Prim.Native.Nat.{ℕ, ◌-◌, ◌*◌, ◌/◌, ◌%◌, ◌^◌, ◌<◌}
use lib.Bits.{bit_and, bit_or}
use lib.Dec.{eqb}
use lib.Pow.{pow_pos}
use native.Mathlib.Nat.{mod-lt}
use Rattle.words.specs.Bit.{bit}
use Rattle.words.proofs.BitLaws.{bit-not, bit-or, bit-clear, bit-shl}
use Rattle.pauli.specs.Letters.{I, letter, ◌⊕◌, ◌·◌, power, ◌⊞◌}
use Rattle.pauli.specs.Rows.{minus_sign}
use Rattle.pauli.proofs.Cases.{tested, bit as bool, ltr, pow}
use Rattle.multiply_rows.specs.Parts.Steps.{power_in_bits}

pub letters_law : (x z px pz m : Bool) → letter (x ⊕ (px && m)) (z ⊕ (pz && m)) ≡ cond m (letter x z · letter px pz) (letter x z)
letters_law = tested (bool ∷ bool ∷ bool ∷ bool ∷ bool ∷ []) ltr _ _ tt

-- a power of 1 or 3 turns the low bit; the high bit by the carry, and once more where the power is 3
pub counts_law : (x z px pz m hi lo : Bool)
    → power_in_bits (hi ⊕ ((((x && pz) ⊕ (z && px)) && m) && ((lo ⊕ ((x ⊕ (px && m)) ⊕ (z ⊕ (pz && m)))) ⊕ (x && pz)))) (lo ⊕ (((x && pz) ⊕ (z && px)) && m))
    ≡ cond m (power_in_bits hi lo ⊞ power (letter x z) (letter px pz)) (power_in_bits hi lo)
counts_law = tested (bool ∷ bool ∷ bool ∷ bool ∷ bool ∷ bool ∷ bool ∷ []) pow _ _ tt

-- the word but for bit p
abbrev pub keep : ℕ → ℕ
keep p = 2 ^ 64 - 1 - (1 * 2 ^ p) % 2 ^ 64

pub bit-keep : (i p : ℕ) → i < 64 → p < 64 → bit i (keep p) ≡ not (eqb i p)
bit-keep i p il pl = bit-not 64 i _ il (mod-lt (1 * 2 ^ p) (pow_pos 64)) ∙ ap not (bit-shl i p pl)

-- a letter that is kept where b does not hold
pub kept_law : (x z b : Bool) → letter (x && not b) (z && not b) ≡ cond b I (letter x z)
kept_law = tested (bool ∷ bool ∷ bool ∷ []) ltr _ _ tt

-- a sign that is kept where b does not hold, under the mask m
pub sign_law : (s b m h n : Bool) → (s && not b) ⊕ (m && (h ⊕ n)) ≡ cond b false s ⊕ (m && n) ⊕ (m && h)
sign_law = tested (bool ∷ bool ∷ bool ∷ bool ∷ bool ∷ []) bool _ _ tt

-- the high bit of a count is its sign
pub count_sign : (h l : Bool) → minus_sign (power_in_bits h l) ≡ h
count_sign = tested (bool ∷ bool ∷ []) bool _ _ tt

or_letter : (x z : Bool) → letter x z ≡ cond (x || z) (letter x z) I
or_letter = tested (bool ∷ bool ∷ []) ltr _ _ tt

-- row p has I where neither word has its bit, as the code's `((x | z) >> p) & 1 == 1` tests it
pub no_letter : (p x z : ℕ) → (bit_and (bit_or x z / 2 ^ p) 1 ≡ 1 → ⊥) → letter (bit p x) (bit p z) ≡ I
no_letter p x z e = or_letter (bit p x) (bit p z) ∙ ap (λ (b : Bool). cond b (letter (bit p x) (bit p z)) I) (sym (bit-or p x z) ∙ bit-clear p (bit_or x z) e)
