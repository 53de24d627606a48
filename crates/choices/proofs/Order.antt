-- Products of commuting rows multiply by the exclusive or of their choices, power of i included, and the order of the rows does not matter. Assumes nothing.
use mathlib.Core.Path.{◌≡◌, refl, sym, ◌∙◌, ap, ap₂}
use mathlib.Core.Bool.{Bool, true, false, cond}
use mathlib.Core.List.{List, [], ◌∷◌}
use Prim.Native.Nat.{ℕ, zero, suc, ◌<◌}
use native.Mathlib.Omega.{arith}
use lib.Dec.{eqb}
use Rattle.pauli.specs.Letters.{Letter, I, Power, i0, ◌⊕◌, ◌⊞◌, sign, ◌·◌, power}
use Rattle.pauli.specs.Rows.{anticommute, total, Phased, product, Row, phased}
use Rattle.pauli.proofs.Cases.{tested, bit, ltr, pow}
use Rattle.pauli.proofs.Sums.{sum-cong, sum-zero}
use Rattle.pauli.proofs.LetterLaws.{power_adds}
use Rattle.pauli.proofs.RowLaws.{anticommute-swap, total_swap, product-assoc}
use Rattle.choices.specs.Choices.{Choice, identity, chosen_product}
use Rattle.choices.specs.Order.{Commuting, product_in_order, odd_times, AllBelow}
use Rattle.choices.proofs.Products.{identity_left, product-cong, product-none, product-one, product-commutes}

-- rows are their own inverses
row_twice : (n : ℕ) (r : Row) → product n (phased r) (phased r) ≡ identity
row_twice n r = λ i. record { phase = e i; letters = λ j. both (r.letters j) i }
  where
    both : (l : Letter) → l · l ≡ I
    both = tested (ltr ∷ []) ltr _ _ tt

    none : (l : Letter) → power l l ≡ i0
    none = tested (ltr ∷ []) pow _ _ tt

    law : (b : Bool) → sign b ⊞ sign b ⊞ i0 ≡ i0
    law = tested (bit ∷ []) pow _ _ tt

    e : sign r.minus ⊞ sign r.minus ⊞ total n r.letters r.letters ≡ i0
    e = ap (λ q. sign r.minus ⊞ sign r.minus ⊞ q) (sum-cong power_adds _ _ n (λ j b. none (r.letters j)) ∙ sum-zero power_adds n) ∙ law r.minus

product-swap : (n : ℕ) (p q : Phased) → anticommute n p.letters q.letters ≡ false → product n p q ≡ product n q p
product-swap n p q c = λ i. record { phase = e i; letters = λ j. either (p.letters j) (q.letters j) i }
  where
    either : (l m : Letter) → l · m ≡ m · l
    either = tested (ltr ∷ ltr ∷ []) ltr _ _ tt

    law : (a b d : Power) → a ⊞ b ⊞ (d ⊞ i0) ≡ b ⊞ a ⊞ d
    law = tested (pow ∷ pow ∷ pow ∷ []) pow _ _ tt

    e : p.phase ⊞ q.phase ⊞ total n p.letters q.letters ≡ q.phase ⊞ p.phase ⊞ total n q.letters p.letters
    e =
        ap (λ d. p.phase ⊞ q.phase ⊞ d) (total_swap n p.letters q.letters ∙ ap (λ b. total n q.letters p.letters ⊞ sign b) c)
        ∙ law p.phase q.phase (total n q.letters p.letters)

module _ (n : ℕ) (rows : ℕ → Row) where
  pub product-xor : (c d : Choice) (k : ℕ) → Commuting n rows k
      → product n (chosen_product n rows c k) (chosen_product n rows d k) ≡ chosen_product n rows (λ i. c i ⊕ d i) k
  product-xor c d zero h = identity_left n identity
  product-xor c d (suc k) h = go (c k) (d k) (product-xor c d k (λ i j hi hj. h i j (omega arith) (omega arith)))
    where
      P : Phased
      P = chosen_product n rows c k

      Q : Phased
      Q = chosen_product n rows d k

      PQ : Phased
      PQ = chosen_product n rows (λ i. c i ⊕ d i) k

      R : Phased
      R = phased (rows k)

      past : product n R Q ≡ product n Q R
      past = product-swap n R Q (anticommute-swap n R.letters Q.letters ∙ product-commutes n rows d (rows k).letters k (λ i hi. h i k (omega arith) (omega arith)))

      go : (a b : Bool) → product n P Q ≡ PQ → product n (cond a (product n P R) P) (cond b (product n Q R) Q) ≡ cond (a ⊕ b) (product n PQ R) PQ
      go true true e =
          product-assoc n P R (product n Q R) ∙ ap (product n P) (ap (product n R) (sym past) ∙ sym (product-assoc n R R Q) ∙ ap (λ p. product n p Q) (row_twice n (rows k)) ∙ identity_left n Q) ∙ e
      go true false e = product-assoc n P R Q ∙ ap (product n P) past ∙ sym (product-assoc n P Q R) ∙ ap (λ p. product n p R) e
      go false true e = sym (product-assoc n P Q R) ∙ ap (λ p. product n p R) e
      go false false e = e

  odd_order : (js : List ℕ) (k : ℕ) → Commuting n rows k → AllBelow k js → product_in_order n rows js ≡ chosen_product n rows (odd_times js) k
  odd_order [] k h a = sym (product-none n rows (λ i. false) k (λ i hi. refl))
  odd_order (j ∷ js) k h a = ap₂ (product n) (sym (product-one n rows j k a.0)) (odd_order js k h a.1) ∙ product-xor (λ i. eqb i j) (odd_times js) k h

  -- commuting rows may be multiplied in any order: what counts is which of them are in
  pub any_order : (c : Choice) (js : List ℕ) (k : ℕ) → Commuting n rows k → AllBelow k js → ((i : ℕ) → i < k → odd_times js i ≡ c i) → product_in_order n rows js ≡ chosen_product n rows c k
  any_order c js k h a e = odd_order js k h a ∙ product-cong n rows rows (odd_times js) c k (λ i hi. refl) e
