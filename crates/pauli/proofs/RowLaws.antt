-- The laws of rows, over any number of qubits: commuting is symmetric and bilinear, products associate with their power of i,
-- and the product of commuting rows has an even total. Assumes nothing.
use mathlib.Core.Path.{◌≡◌, refl, sym, ◌∙◌, ap}
use mathlib.Core.Bool.{Bool, false}
use mathlib.Core.List.{[], ◌∷◌}
use Prim.Native.Nat.{ℕ, zero, suc, ◌+◌}
use native.Mathlib.Nat.{add-zero, add-suc}
use Rattle.pauli.specs.Letters.{Letter, Power, i0, ◌⊕◌, ◌⊞◌, sign, odd, differ}
use Rattle.pauli.specs.Rows.{Letters, odd_number, anticommute, total, mul, Phased, product, Row, phased, minus_sign, times_row}
use Rattle.pauli.proofs.Cases.{tested, bit, ltr, pow}
use Rattle.pauli.proofs.Sums.{sum-cong, sum-plus, sum-map, sum-zero}
use Rattle.pauli.proofs.LetterLaws.{xor_adds, power_adds, power_odd, power_swap, power_assoc, mul_assoc, differ-swap, differ-mul, odd_plus, sign_plus, even_sign}

-- places one after another
pub odd_split : (f : ℕ → Bool) (n k : ℕ) → odd_number f (n + k) ≡ odd_number f n ⊕ odd_number (λ i. f (n + i)) k
odd_split f n zero = rw (add-zero n) (sym (xor_adds.right _))
odd_split f n (suc k) = rw (add-suc n k, odd_split f n k) (law (odd_number f n) (odd_number (λ i. f (n + i)) k) (f (n + k)))
  where
    law : (a b c : Bool) → a ⊕ b ⊕ c ≡ a ⊕ (b ⊕ c)
    law = tested (bit ∷ bit ∷ bit ∷ []) bit _ _ tt

pub anticommute-self : (n : ℕ) (r : Letters) → anticommute n r r ≡ false
anticommute-self n r = sum-cong xor_adds _ _ n (λ i b. law (r i)) ∙ sum-zero xor_adds n
  where
    law : (a : Letter) → differ a a ≡ false
    law = tested (ltr ∷ []) bit _ _ tt

pub anticommute-swap : (n : ℕ) (r s : Letters) → anticommute n r s ≡ anticommute n s r
anticommute-swap n r s = sum-cong xor_adds _ _ n (λ i b. differ-swap (r i) (s i))

pub anticommute-mul : (n : ℕ) (r s t : Letters) → anticommute n (mul r s) t ≡ anticommute n r t ⊕ anticommute n s t
anticommute-mul n r s t = sum-cong xor_adds _ _ n (λ i b. differ-mul (r i) (s i) (t i)) ∙ sum-plus xor_adds _ _ n

pub total_odd : (n : ℕ) (r s : Letters) → odd (total n r s) ≡ anticommute n r s
total_odd n r s = sum-map i0 ◌⊞◌ false ◌⊕◌ odd refl odd_plus _ n ∙ sum-cong xor_adds _ _ n (λ i b. power_odd (r i) (s i))

pub total_swap : (n : ℕ) (r s : Letters) → total n r s ≡ total n s r ⊞ sign (anticommute n r s)
total_swap n r s =
    sum-cong power_adds _ _ n (λ i b. power_swap (r i) (s i)) ∙ sum-plus power_adds _ _ n
    ∙ ap (λ p. total n s r ⊞ p) (sym (sum-map false ◌⊕◌ i0 ◌⊞◌ sign refl sign_plus _ n))

pub total_assoc : (n : ℕ) (r s t : Letters) → total n r s ⊞ total n (mul r s) t ≡ total n s t ⊞ total n r (mul s t)
total_assoc n r s t = sym (sum-plus power_adds _ _ n) ∙ sum-cong power_adds _ _ n (λ i b. power_assoc (r i) (s i) (t i)) ∙ sum-plus power_adds _ _ n

regroup : (p q r a b c d : Power) → a ⊞ b ≡ c ⊞ d → p ⊞ q ⊞ a ⊞ r ⊞ b ≡ p ⊞ (q ⊞ r ⊞ c) ⊞ d
regroup p q r a b c d e = rw (left_side p q r a b, e, right_side p q r c d)
  where
    left_side : (p q r a b : Power) → p ⊞ q ⊞ a ⊞ r ⊞ b ≡ p ⊞ q ⊞ r ⊞ (a ⊞ b)
    left_side = tested (pow ∷ pow ∷ pow ∷ pow ∷ pow ∷ []) pow _ _ tt

    right_side : (p q r c d : Power) → p ⊞ (q ⊞ r ⊞ c) ⊞ d ≡ p ⊞ q ⊞ r ⊞ (c ⊞ d)
    right_side = tested (pow ∷ pow ∷ pow ∷ pow ∷ pow ∷ []) pow _ _ tt

pub product-assoc : (n : ℕ) (r s t : Phased) → product n (product n r s) t ≡ product n r (product n s t)
product-assoc n r s t =
    let e : (product n (product n r s) t).phase ≡ (product n r (product n s t)).phase
    = regroup r.phase s.phase t.phase (total n r.letters s.letters) (total n (mul r.letters s.letters) t.letters) (total n s.letters t.letters) (total n r.letters (mul s.letters t.letters)) (total_assoc n r.letters s.letters t.letters) in
    λ i. record { phase = e i; letters = λ j. mul_assoc (r.letters j) (s.letters j) (t.letters j) i }

-- the sign of a product: the two signs, and that of the letters' total
pub times_minus : (n : ℕ) (r s : Row) → (times_row n r s).minus ≡ r.minus ⊕ s.minus ⊕ minus_sign (total n r.letters s.letters)
times_minus n r s = law r.minus s.minus (total n r.letters s.letters)
  where
    law : (a b : Bool) (p : Power) → minus_sign (sign a ⊞ sign b ⊞ p) ≡ a ⊕ b ⊕ minus_sign p
    law = tested (bit ∷ bit ∷ pow ∷ []) bit _ _ tt

-- the total of commuting rows is even, signs included
pub product-even : (n : ℕ) (r s : Row) → odd (product n (phased r) (phased s)).phase ≡ anticommute n r.letters s.letters
product-even n r s = law r.minus s.minus (total n r.letters s.letters) ∙ total_odd n r.letters s.letters
  where
    law : (a b : Bool) (p : Power) → odd (sign a ⊞ sign b ⊞ p) ≡ odd p
    law = tested (bit ∷ bit ∷ pow ∷ []) bit _ _ tt

-- so the row that is their product has the product's own power of i
pub times_phased : (n : ℕ) (r s : Row) → anticommute n r.letters s.letters ≡ false → phased (times_row n r s) ≡ product n (phased r) (phased s)
times_phased n r s e = λ i. record { phase = even_sign (product n (phased r) (phased s)).phase (product-even n r s ∙ e) i; letters = mul r.letters s.letters }
