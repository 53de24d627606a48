-- The laws of products over choices: which rows count, what anticommutes with a product, and that the product of commuting rows has an even power of i.
-- Assumes nothing.
use mathlib.Core.Path.{◌≡◌, refl, sym, ◌∙◌, ap}
use mathlib.Core.Bool.{Bool, true, false, ◌&&◌, cond, and-true, and-false}
use mathlib.Core.List.{[], ◌∷◌}
use Prim.Native.Nat.{ℕ, zero, suc, ◌<◌}
use native.Mathlib.Omega.{arith}
use lib.Dec.{eqb}
use borrow.Author.Tests.{eqb-true, eqb-false, ne_eqb}
use Rattle.pauli.specs.Letters.{I, Power, ◌⊕◌, ◌⊞◌, sign, odd, differ}
use Rattle.pauli.specs.Rows.{Letters, anticommute, odd_number, total, Phased, product, Row, phased, minus_sign}
use Rattle.pauli.proofs.Cases.{tested, bit, pow}
use Rattle.pauli.proofs.Sums.{sum-cong, sum-zero, sum_one}
use Rattle.pauli.proofs.LetterLaws.{xor_adds, power_adds, even_sign}
use Rattle.pauli.proofs.RowLaws.{anticommute-mul, total_odd}
use Rattle.choices.specs.Choices.{Choice, identity, chosen_product, OnlyI, ProductOf}
use Rattle.choices.specs.Order.{Commuting}

pub identity_left : (n : ℕ) (p : Phased) → product n identity p ≡ p
identity_left n p = λ i. record { phase = e i; letters = p.letters }
  where
    e : p.phase ⊞ total n (λ j. I) p.letters ≡ p.phase
    e = ap (λ q. p.phase ⊞ q) (sum-zero power_adds n) ∙ power_adds.right p.phase

-- commuting reads the letters on the n qubits alone
pub anticommute-cong : (n : ℕ) (r s w : Letters) → ((b : ℕ) → b < n → r b ≡ s b) → anticommute n r w ≡ anticommute n s w
anticommute-cong n r s w e = sum-cong xor_adds _ _ n (λ b h. ap (λ l. differ l (w b)) (e b h))

-- everything commutes with what has only I letters
pub only_I_commutes : (n : ℕ) (r w : Letters) → OnlyI n r → anticommute n r w ≡ false
only_I_commutes n r w e = anticommute-cong n r (λ b. I) w e ∙ sum-zero xor_adds n

-- of the chosen, just the one of number j counts
pub only : (n : ℕ) (c g : Choice) (j : ℕ) → j < n → ((i : ℕ) → i < n → g i ≡ eqb i j) → odd_number (λ i. c i && g i) n ≡ c j
only n c g j hj e = sum-cong xor_adds _ _ n (λ i hi. rw (e i hi) (go i (eqb i j) refl)) ∙ sum_one xor_adds (c j) j n hj
  where
    go : (i : ℕ) (b : Bool) → eqb i j ≡ b → (c i && b) ≡ cond b (c j) false
    go i true u = and-true (c i) ∙ ap c (eqb-true i j u)
    go i false u = and-false (c i)

-- none of the chosen counts
dead : (n : ℕ) (c g : Choice) → ((i : ℕ) → i < n → g i ≡ false) → odd_number (λ i. c i && g i) n ≡ false
dead n c g e = sum-cong xor_adds _ _ n (λ i hi. rw (e i hi) (and-false (c i))) ∙ sum-zero xor_adds n

-- only the first k rows count, and whether they are in
pub product-cong : (n : ℕ) (r s : ℕ → Row) (c d : Choice) (k : ℕ) → ((i : ℕ) → i < k → r i ≡ s i) → ((i : ℕ) → i < k → c i ≡ d i)
    → chosen_product n r c k ≡ chosen_product n s d k
product-cong n r s c d zero e f = refl
product-cong n r s c d (suc k) e f =
    let ih : chosen_product n r c k ≡ chosen_product n s d k = product-cong n r s c d k (λ i h. e i (omega arith)) (λ i h. f i (omega arith)) in
    λ i. cond (f k (omega arith) i) (product n (ih i) (phased (e k (omega arith) i))) (ih i)

pub product-of_cong : (n : ℕ) (r s : ℕ → Row) (k : ℕ) → ((i : ℕ) → i < k → r i ≡ s i) → (q : Row) → ProductOf n r k q → ProductOf n s k q
product-of_cong n r s k e q g = record {
  choice = g.choice;
  letters = λ b h. ap (λ p. p.letters b) same ∙ g.letters b h;
  power = ap (λ p. p.phase) same ∙ g.power;
}
  where
    same : chosen_product n s g.choice k ≡ chosen_product n r g.choice k
    same = product-cong n s r g.choice g.choice k (λ i h. sym (e i h)) (λ i h. refl)

module _ (n : ℕ) (rows : ℕ → Row) where
  pub product-none : (c : Choice) (k : ℕ) → ((i : ℕ) → i < k → c i ≡ false) → chosen_product n rows c k ≡ identity
  product-none c zero e = refl
  product-none c (suc k) e = rw (e k (omega arith)) (product-none c k (λ i h. e i (omega arith)))

  -- one row that is in is the product
  pub product-one : (j k : ℕ) → j < k → chosen_product n rows (λ i. eqb i j) k ≡ phased (rows j)
  product-one j zero h = absurd (omega arith)
  product-one j (suc k) h = go (eqb k j) refl (product-one j k)
    where
      go : (b : Bool) → eqb k j ≡ b → (j < k → chosen_product n rows (λ i. eqb i j) k ≡ phased (rows j))
          → cond b (product n (chosen_product n rows (λ i. eqb i j) k) (phased (rows k))) (chosen_product n rows (λ i. eqb i j) k) ≡ phased (rows j)
      go true e ih =
          ap (λ p. product n p (phased (rows k))) (product-none (λ i. eqb i j) k (λ i hi. ne_eqb i j (λ u. omega (arith, eqb-true k j e))))
          ∙ identity_left n (phased (rows k)) ∙ ap (λ i. phased (rows i)) (eqb-true k j e)
      go false e ih = ih (omega (arith, eqb-false k j e))

  -- a product anticommutes with a row when an odd number of the chosen do
  pub anticommute-product : (c : Choice) (w : Letters) (k : ℕ) → anticommute n (chosen_product n rows c k).letters w ≡ odd_number (λ i. c i && anticommute n (rows i).letters w) k
  anticommute-product c w zero = sum-zero xor_adds n
  anticommute-product c w (suc k) = go (c k) ∙ ap (λ b. b ⊕ (c k && anticommute n (rows k).letters w)) (anticommute-product c w k)
    where
      go : (b : Bool) → anticommute n (cond b (product n (chosen_product n rows c k) (phased (rows k))) (chosen_product n rows c k)).letters w ≡ anticommute n (chosen_product n rows c k).letters w ⊕ (b && anticommute n (rows k).letters w)
      go true = anticommute-mul n (chosen_product n rows c k).letters (rows k).letters w
      go false = sym (xor_adds.right _)

  pub product-commutes : (c : Choice) (w : Letters) (k : ℕ) → ((i : ℕ) → i < k → anticommute n (rows i).letters w ≡ false) → anticommute n (chosen_product n rows c k).letters w ≡ false
  product-commutes c w k e = anticommute-product c w k ∙ dead k c (λ i. anticommute n (rows i).letters w) e

  -- the product of commuting rows has an even power
  pub chosen_even : (c : Choice) (k : ℕ) → Commuting n rows k → odd (chosen_product n rows c k).phase ≡ false
  chosen_even c zero h = refl
  chosen_even c (suc k) h = go (c k) (chosen_even c k (λ i j hi hj. h i j (omega arith) (omega arith)))
    where
      P : Phased
      P = chosen_product n rows c k

      law : (q r : Power) (m : Bool) → odd (q ⊞ sign m ⊞ r) ≡ odd q ⊕ odd r
      law = tested (pow ∷ pow ∷ bit ∷ []) bit _ _ tt

      go : (b : Bool) → odd P.phase ≡ false → odd (cond b (product n P (phased (rows k))) P).phase ≡ false
      go true e =
          law P.phase (total n P.letters (rows k).letters) (rows k).minus
          ∙ rw (e, total_odd n P.letters (rows k).letters, product-commutes c (rows k).letters k (λ i hi. h i k (omega arith) (omega arith)))
      go false e = e

  -- so it is a row, whose sign tells the power
  pub product-sign : (c : Choice) (k : ℕ) → Commuting n rows k → (chosen_product n rows c k).phase ≡ sign (minus_sign (chosen_product n rows c k).phase)
  product-sign c k h = sym (even_sign (chosen_product n rows c k).phase (chosen_even c k h))
