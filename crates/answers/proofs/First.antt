-- What the search for the lowest number that passes a test finds. Assumes nothing.
use mathlib.Core.Path.{◌≡◌, refl, sym, ◌∙◌, ap}
use mathlib.Core.Bool.{Bool, true, false, cond, true≢false}
use Rattle.std.specs.Prelude.{Option, None, Some, nat_lt}
use Rattle.std.specs.List.{position, position_or_len}
use Rattle.std.proofs.lemmas.List.Sums.{fails_before_first, passes_at_first}
use Prim.Native.Nat.{ℕ, zero, suc, ◌<◌, ◌≤◌}
use native.Mathlib.Decide.{dec_lt}
use native.Mathlib.Omega.{arith}
use lib.Dec.{eqb}
use lib.ListN.{length, get_or}
use mathlib.Core.List.{List}
use borrow.Author.Tests.{eqb-true, eqb-false}
use Rattle.answers.specs.First.{lowest}

pub record Lowest (f : ℕ → Bool) (n p : ℕ) : Type 0 where
  pub below : p < n
  pub passes : f p ≡ true
  pub first : (i : ℕ) → i < p → f i ≡ false

abbrev pub Answer : (ℕ → Bool) → ℕ → Option ℕ → Type 0
Answer f n (Some p) = Lowest f n p
Answer f n None = (i : ℕ) → i < n → f i ≡ false

pub lowest_is : (f : ℕ → Bool) (n : ℕ) → Answer f n (lowest f n)
lowest_is f zero = λ i h. absurd (omega arith)
lowest_is f (suc n) = go (lowest f n) (lowest_is f n) (f n) refl
  where
    go : (o : Option ℕ) → Answer f n o → (b : Bool) → f n ≡ b → Answer f (suc n) (elim o [ Some p ↦ Some p | None ↦ cond b (Some n) None ])
    go (Some p) k b e = record { below = omega (arith, k.below); passes = k.passes; first = k.first }
    go None k true e = record { below = omega arith; passes = e; first = k }
    go None k false e = λ i h. last i h (eqb i n) refl
      where
        last : (i : ℕ) → i < suc n → (b : Bool) → eqb i n ≡ b → f i ≡ false
        last i h true u = ap f (eqb-true i n u) ∙ e
        last i h false u = k i (omega (arith, eqb-false i n u))

-- what passes first is found, and nothing where nothing passes
pub lowest_some : (f : ℕ → Bool) (n p : ℕ) → Lowest f n p → lowest f n ≡ Some p
lowest_some f n p l = go (lowest f n) (lowest_is f n)
  where
    clash : {A : Type 0} (i : ℕ) → f i ≡ true → f i ≡ false → A
    clash i e u = absurd (true≢false (sym e ∙ u))

    go : (o : Option ℕ) → Answer f n o → o ≡ Some p
    go None k = clash p l.passes (k p l.below)
    go (Some q) k = ap Some (order (dec_lt q p) (dec_lt p q))
      where
        order : Dec (q < p) → Dec (p < q) → q ≡ p
        order (yes h) d = clash q k.passes (l.first q h)
        order (no h) (yes g) = clash p l.passes (k.first p g)
        order (no h) (no g) = omega arith

pub lowest_none : (f : ℕ → Bool) (n : ℕ) → ((i : ℕ) → i < n → f i ≡ false) → lowest f n ≡ None
lowest_none f n l = go (lowest f n) (lowest_is f n)
  where
    go : (o : Option ℕ) → Answer f n o → o ≡ None
    go None k = refl
    go (Some q) k = absurd (true≢false (sym k.passes ∙ l q k.below))

-- where nothing is found nothing passes
pub none_passes : (f : ℕ → Bool) (n : ℕ) → lowest f n ≡ None → (i : ℕ) → i < n → f i ≡ false
none_passes f n e = go (lowest f n) e (lowest_is f n)
  where
    go : (o : Option ℕ) → o ≡ None → Answer f n o → (i : ℕ) → i < n → f i ≡ false
    go None q l = l
    go (Some p) q l = absurd (let z : ◌≡◌ {A = ℕ} 0 1 = cc in omega arith)

-- what is found lies below n
pub lowest_below : (f : ℕ → Bool) (n p : ℕ) → Some p ≡ lowest f n → p < n
lowest_below f n p e = go (lowest f n) e (lowest_is f n)
  where
    go : (o : Option ℕ) → Some p ≡ o → Answer f n o → p < n
    go None q l = absurd (let z : ◌≡◌ {A = ℕ} 0 1 = cc in omega arith)
    go (Some k) q l = let u : p ≡ k = cc in omega (arith, l.below)

-- the place of the first element that passes, as the library finds it
pub position_lowest : (p : ℕ → Bool) (xs : List ℕ) → position p xs ≡ lowest (λ k. p (get_or xs k 0)) (length xs)
position_lowest p xs = go (nat_lt (position_or_len p xs) (length xs)) refl
  where
    go : (b : Bool) → nat_lt (position_or_len p xs) (length xs) ≡ b → cond b (Some (position_or_len p xs)) None ≡ lowest (λ k. p (get_or xs k 0)) (length xs)
    go true e =
        let h : position_or_len p xs < length xs = grind (arith) in
        sym (lowest_some _ _ _ (record { below = h; passes = passes_at_first p xs 0 h; first = λ k l. fails_before_first p xs k 0 l }))
    go false e =
        let h : length xs ≤ position_or_len p xs = grind (arith) in
        sym (lowest_none _ _ (λ (k : ℕ) (l : k < length xs). fails_before_first p xs k 0 (omega (arith, h, l))))
