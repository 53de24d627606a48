-- The laws of letters and of powers of i, each tested at all values. Assumes nothing.
use mathlib.Core.Path.{◌≡◌, refl, sym, ◌∙◌, ap}
use mathlib.Core.Bool.{Bool, true, false, ◌&&◌, true≢false}
use mathlib.Core.List.{[], ◌∷◌}
use Rattle.pauli.specs.Letters.{Letter, I, Power, i0, i1, ◌⊕◌, x, z, letter, ◌⊞◌, sign, odd, ◌·◌, power, differ}
use Rattle.pauli.specs.Rows.{minus_sign}
use Rattle.pauli.proofs.Cases.{tested, bit, ltr, pow}
use Rattle.pauli.proofs.Sums.{Adds}

-- what is true of both
pub both : (a b : Bool) → (a && b) ≡ true → (a ≡ true) × (b ≡ true)
both true b e = (refl, e)
both false b e = absurd (true≢false (sym e))

-- no letter differs from I
pub differ-none : (l : Letter) → differ l I ≡ false
differ-none = tested (ltr ∷ []) bit _ _ tt

pub xor_adds : Adds false ◌⊕◌
xor_adds = record { left = tested (bit ∷ []) bit _ _ tt; right = tested (bit ∷ []) bit _ _ tt; medial = tested (bit ∷ bit ∷ bit ∷ bit ∷ []) bit _ _ tt }

pub power_adds : Adds i0 ◌⊞◌
power_adds = record { left = tested (pow ∷ []) pow _ _ tt; right = tested (pow ∷ []) pow _ _ tt; medial = tested (pow ∷ pow ∷ pow ∷ pow ∷ []) pow _ _ tt }

-- the bits of a letter, and the letter of two bits
pub x_letter : (a b : Bool) → x (letter a b) ≡ a
x_letter = tested (bit ∷ bit ∷ []) bit _ _ tt

pub z_letter : (a b : Bool) → z (letter a b) ≡ b
z_letter = tested (bit ∷ bit ∷ []) bit _ _ tt

pub letter_bits : (a : Letter) → letter (x a) (z a) ≡ a
letter_bits = tested (ltr ∷ []) ltr _ _ tt

-- the product of letters is the exclusive or of their bits
pub mul_bits : (a b : Letter) → a · b ≡ letter (x a ⊕ x b) (z a ⊕ z b)
mul_bits = tested (ltr ∷ ltr ∷ []) ltr _ _ tt

pub power_odd : (a b : Letter) → odd (power a b) ≡ differ a b
power_odd = tested (ltr ∷ ltr ∷ []) bit _ _ tt

pub power_swap : (a b : Letter) → power a b ≡ power b a ⊞ sign (differ a b)
power_swap = tested (ltr ∷ ltr ∷ []) pow _ _ tt

pub power_assoc : (a b c : Letter) → power a b ⊞ power (a · b) c ≡ power b c ⊞ power a (b · c)
power_assoc = tested (ltr ∷ ltr ∷ ltr ∷ []) pow _ _ tt

pub mul_assoc : (a b c : Letter) → a · b · c ≡ a · (b · c)
mul_assoc = tested (ltr ∷ ltr ∷ ltr ∷ []) ltr _ _ tt

pub differ-swap : (a b : Letter) → differ a b ≡ differ b a
differ-swap = tested (ltr ∷ ltr ∷ []) bit _ _ tt

pub differ-mul : (a b c : Letter) → differ (a · b) c ≡ differ a c ⊕ differ b c
differ-mul = tested (ltr ∷ ltr ∷ ltr ∷ []) bit _ _ tt

pub differ-bits : (a b : Letter) → differ a b ≡ (x a && z b) ⊕ (z a && x b)
differ-bits = tested (ltr ∷ ltr ∷ []) bit _ _ tt

pub add_assoc : (p q r : Power) → p ⊞ q ⊞ r ≡ p ⊞ (q ⊞ r)
add_assoc = tested (pow ∷ pow ∷ pow ∷ []) pow _ _ tt

pub odd_plus : (p q : Power) → odd (p ⊞ q) ≡ odd p ⊕ odd q
odd_plus = tested (pow ∷ pow ∷ []) bit _ _ tt

pub sign_plus : (a b : Bool) → sign (a ⊕ b) ≡ sign a ⊞ sign b
sign_plus = tested (bit ∷ bit ∷ []) pow _ _ tt

-- a sign is told by its power
pub sign_back : (b : Bool) → minus_sign (sign b) ≡ b
sign_back = tested (bit ∷ []) bit _ _ tt

-- an even power is that of its sign
pub even_sign : (p : Power) → odd p ≡ false → sign (minus_sign p) ≡ p
even_sign p e = sym (power_adds.right (sign (minus_sign p))) ∙ ap (λ b. sign (minus_sign p) ⊞ one b) (sym e) ∙ law p
  where
    one : Bool → Power
    one false = i0
    one true = i1

    law : (p : Power) → sign (minus_sign p) ⊞ one (odd p) ≡ p
    law = tested (pow ∷ []) pow _ _ tt
