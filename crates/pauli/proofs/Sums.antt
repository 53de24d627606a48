-- Sums of f 0, .. f (n - 1), for any addition with the three laws of `Adds`.
-- Assumes nothing.
use mathlib.Core.Path.{◌≡◌, refl, sym, ◌∙◌, ap, ap₂}
use mathlib.Core.Bool.{Bool, true, false, cond}
use Prim.Native.Nat.{ℕ, zero, suc, ◌<◌}
use native.Mathlib.Omega.{arith}
use lib.Dec.{eqb}
use Rattle.pauli.specs.Sums.{sum}
use borrow.Author.Tests.{eqb-true, eqb-false, eq-eqb, ne_eqb}

pub record Adds {A : Type 0} (o : A) (plus : A → A → A) : Type 0 where
  pub left : (a : A) → plus o a ≡ a
  pub right : (a : A) → plus a o ≡ a
  pub medial : (a b c d : A) → plus (plus a b) (plus c d) ≡ plus (plus a c) (plus b d)

module _ {A : Type 0} {o : A} {plus : A → A → A} (k : Adds o plus) where
  pub sum-cong : (f g : ℕ → A) (n : ℕ) → ((i : ℕ) → i < n → f i ≡ g i) → sum o plus f n ≡ sum o plus g n
  sum-cong f g zero h = refl
  sum-cong f g (suc n) h = ap₂ plus (sum-cong f g n (λ i b. h i (omega arith))) (h n (omega arith))

  pub sum-plus : (f g : ℕ → A) (n : ℕ) → sum o plus (λ i. plus (f i) (g i)) n ≡ plus (sum o plus f n) (sum o plus g n)
  sum-plus f g zero = sym (k.left o)
  sum-plus f g (suc n) = rw (sum-plus f g n) (k.medial _ _ _ _)

  pub sum-zero : (n : ℕ) → sum o plus (λ i. o) n ≡ o
  sum-zero zero = refl
  sum-zero (suc n) = rw (sum-zero n) (k.left o)

  -- the sum has one summand
  pub sum_one : (u : A) (a n : ℕ) → a < n → sum o plus (λ i. cond (eqb i a) u o) n ≡ u
  sum_one u a zero h = absurd (omega arith)
  sum_one u a (suc n) h = go (eqb n a) refl (sum_one u a n)
    where
      go : (b : Bool) → eqb n a ≡ b → (a < n → sum o plus (λ i. cond (eqb i a) u o) n ≡ u) → plus (sum o plus (λ i. cond (eqb i a) u o) n) (cond (eqb n a) u o) ≡ u
      go true e ih =
          let r : sum o plus (λ i. cond (eqb i a) u o) n ≡ o = sum-cong _ _ n (λ i b. rw (ne_eqb i a (λ q. omega (arith, eqb-true n a e)))) ∙ sum-zero n in
          rw (r, e) (k.left u)
      go false e ih = rw (e, ih (omega (arith, eqb-false n a e))) (k.right u)

  -- a sum that differs from another at one place, or at two
  pub sum-at : (f g : ℕ → A) (u : A) (a n : ℕ) → a < n → ((i : ℕ) → f i ≡ plus (g i) (cond (eqb i a) u o)) → sum o plus f n ≡ plus (sum o plus g n) u
  sum-at f g u a n ha e = sum-cong f _ n (λ i b. e i) ∙ sum-plus _ _ n ∙ ap (plus (sum o plus g n)) (sum_one u a n ha)

  pub sum-at₂ : (f g : ℕ → A) (u v : A) (a b n : ℕ) → a < n → b < n → ((i : ℕ) → f i ≡ plus (plus (g i) (cond (eqb i a) u o)) (cond (eqb i b) v o)) → sum o plus f n ≡ plus (plus (sum o plus g n) u) v
  sum-at₂ f g u v a b n ha hb e = sum-at f (λ i. plus (g i) (cond (eqb i a) u o)) v b n hb e ∙ ap (λ t. plus t v) (sum-at _ g u a n ha (λ i. refl))

  pub sum-swap : (f : ℕ → ℕ → A) (m n : ℕ) → sum o plus (λ i. sum o plus (f i) m) n ≡ sum o plus (λ j. sum o plus (λ i. f i j) n) m
  sum-swap f m zero = sym (sum-zero m)
  sum-swap f m (suc n) = rw (sum-swap f m n) (sym (sum-plus _ _ m))

pub sum-map : {A B : Type 0} (o : A) (plus : A → A → A) (o' : B) (plus' : B → B → B) (h : A → B) → h o ≡ o' → ((a b : A) → h (plus a b) ≡ plus' (h a) (h b))
    → (f : ℕ → A) (n : ℕ) → h (sum o plus f n) ≡ sum o' plus' (λ i. h (f i)) n
sum-map o plus o' plus' h e m f zero = e
sum-map o plus o' plus' h e m f (suc n) = m _ _ ∙ ap (λ s. plus' s (h (f n))) (sum-map o plus o' plus' h e m f n)

pub eqb_swap : (i j : ℕ) → eqb i j ≡ eqb j i
eqb_swap i j = go (eqb i j) refl
  where
    go : (b : Bool) → eqb i j ≡ b → b ≡ eqb j i
    go true e = sym (eq-eqb j i (sym (eqb-true i j e)))
    go false e = sym (ne_eqb j i (λ u. eqb-false i j e (sym u)))
