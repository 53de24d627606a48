-- More than k vectors of k bits are dependent, so that of more than 2n rows on n qubits some nonempty choice has a product with only I letters. Assumes nothing.
use mathlib.Core.Path.{◌≡◌, refl, sym, ◌∙◌, ap}
use mathlib.Core.Bool.{Bool, true, false, ◌&&◌, cond, true≢false, and-false}
use mathlib.Core.List.{[], ◌∷◌}
use Rattle.std.specs.Prelude.{Option, None, Some}
use Prim.Native.Nat.{ℕ, zero, suc, ◌+◌, ◌-◌, ◌<◌}
use native.Mathlib.Omega.{arith}
use lib.Dec.{eqb, ltb}
use borrow.Author.Tests.{eqb-true, eqb-false, eq-eqb, ne_eqb, lt-ltb, le-ltb}
use Rattle.pauli.specs.Letters.{Letter, I, ◌⊕◌, x, z, ◌·◌}
use Rattle.pauli.specs.Sums.{sum}
use Rattle.pauli.specs.Rows.{odd_number, Row, phased, product}
use Rattle.pauli.proofs.Cases.{tested, bit, ltr}
use Rattle.pauli.proofs.Sums.{Adds, sum-cong, sum-plus, sum-zero, sum-at, sum-map}
use Rattle.pauli.proofs.LetterLaws.{both, xor_adds, letter_bits}
use Rattle.answers.specs.First.{lowest}
use Rattle.answers.proofs.First.{Answer, lowest_is}
use Rattle.choices.specs.Choices.{Choice, chosen_product, OnlyI}

nat_adds : Adds 0 ◌+◌
nat_adds = record { left = λ a. omega arith; right = λ a. omega arith; medial = λ a b c d. omega arith }

abbrev one : Bool → ℕ
one true = 1
one false = 0

-- how many of the first m pass
abbrev count : (ℕ → Bool) → ℕ → ℕ
count f m = sum 0 ◌+◌ (λ i. one (f i)) m

count_none : (f : ℕ → Bool) (m : ℕ) → ((i : ℕ) → i < m → f i ≡ false) → count f m ≡ 0
count_none f m e = sum-cong nat_adds _ _ m (λ i h. ap one (e i h)) ∙ sum-zero nat_adds m

abbrev without : ℕ → (ℕ → Bool) → ℕ → Bool
without p f = λ i. cond (eqb i p) false (f i)

count_less : (f : ℕ → Bool) (p m : ℕ) → p < m → f p ≡ true → count f m ≡ count (without p f) m + 1
count_less f p m h e = sum-at nat_adds _ _ 1 p m h (λ i. go i (eqb i p) refl)
  where
    go : (i : ℕ) (b : Bool) → eqb i p ≡ b → one (f i) ≡ one (cond b false (f i)) + cond b 1 0
    go i true u = rw (eqb-true i p u, e)
    go i false u = omega arith

record Dependence (k m : ℕ) (alive : ℕ → Bool) (v : ℕ → ℕ → Bool) : Type 0 where
  pub c : ℕ → Bool
  pub i : ℕ
  pub below : i < m
  pub used : c i ≡ true
  pub within : (j : ℕ) → alive j ≡ false → c j ≡ false
  pub zeros : (j : ℕ) → j < k → odd_number (λ i. c i && v i j) m ≡ false

clash : {A : Type 0} (b : Bool) → b ≡ true → b ≡ false → A
clash b e f = absurd (true≢false (sym e ∙ f))

first : (m : ℕ) (alive : ℕ → Bool) (v : ℕ → ℕ → Bool) → 0 < count alive m → (o : Option ℕ) → Answer alive m o → Dependence 0 m alive v
first m alive v h (Some p) l = record {
  c = λ i. eqb i p;
  i = p;
  below = l.below;
  used = eq-eqb p p refl;
  within = λ j e. ne_eqb j p (λ u. clash (alive p) l.passes (ap alive (sym u) ∙ e));
  zeros = λ j h. absurd (omega arith);
}
first m alive v h None l = absurd (omega (arith, count_none alive m l))

-- no vector of the living has the bit k
skip : (k m : ℕ) (alive : ℕ → Bool) (v : ℕ → ℕ → Bool) → ((i : ℕ) → i < m → (alive i && v i k) ≡ false) → Dependence k m alive v → Dependence (suc k) m alive v
skip k m alive v l d = record { c = d.c; i = d.i; below = d.below; used = d.used; within = d.within; zeros = λ j h. go j h (eqb j k) refl }
  where
    cell : (i : ℕ) → i < m → (b : Bool) → alive i ≡ b → (d.c i && v i k) ≡ false
    cell i h true e = ap (λ b. d.c i && b) (sym (ap (λ b. b && v i k) e) ∙ l i h) ∙ and-false (d.c i)
    cell i h false e = ap (λ b. b && v i k) (d.within i e)

    go : (j : ℕ) → j < suc k → (b : Bool) → eqb j k ≡ b → odd_number (λ i. d.c i && v i j) m ≡ false
    go j h true e = rw (eqb-true j k e) (sum-cong xor_adds _ _ m (λ i hi. cell i hi (alive i) refl) ∙ sum-zero xor_adds m)
    go j h false e = d.zeros j (omega (arith, eqb-false j k e))

-- the vector p has the bit k: it is added to those that have it, and left out
module _ (k m p : ℕ) (alive : ℕ → Bool) (v : ℕ → ℕ → Bool) where
  cleared : ℕ → ℕ → Bool
  cleared i j = v i j ⊕ (v i k && v p j)

  pivot : p < m → alive p ≡ true → v p k ≡ true → Dependence k m (without p alive) cleared → Dependence (suc k) m alive v
  unfolding cleared
  pivot hp ap' vp d = record {
    c = λ i. cond (eqb i p) t (d.c i);
    i = d.i;
    below = d.below;
    used = used' (eqb d.i p) refl;
    within = λ j e. rw (not_p j e) (d.within j (rw (not_p j e) e));
    zeros = λ j h. added j ∙ go j h (eqb j k) refl;
  }
    where
      t : Bool
      t = odd_number (λ i. d.c i && v i k) m

      out : d.c p ≡ false
      out = d.within p (rw (eq-eqb p p refl))

      not_p : (j : ℕ) → alive j ≡ false → eqb j p ≡ false
      not_p j e = ne_eqb j p (λ u. clash (alive p) ap' (ap alive (sym u) ∙ e))

      used' : (b : Bool) → eqb d.i p ≡ b → cond b t (d.c d.i) ≡ true
      used' true u = clash (d.c d.i) d.used (ap d.c (eqb-true d.i p u) ∙ out)
      used' false u = d.used

      added : (j : ℕ) → odd_number (λ i. cond (eqb i p) t (d.c i) && v i j) m ≡ odd_number (λ i. d.c i && v i j) m ⊕ (t && v p j)
      added j = sum-at xor_adds _ _ (t && v p j) p m hp (λ i. cell i (eqb i p) refl)
        where
          cell : (i : ℕ) (b : Bool) → eqb i p ≡ b → (cond b t (d.c i) && v i j) ≡ (d.c i && v i j) ⊕ cond b (t && v p j) false
          cell i true u = rw (eqb-true i p u, out)
          cell i false u = sym (xor_adds.right _)

      spread : (a b c e : Bool) → (a && (b ⊕ (c && e))) ≡ (a && b) ⊕ ((a && c) && e)
      spread = tested (bit ∷ bit ∷ bit ∷ bit ∷ []) bit _ _ tt

      right_and : (b : Bool) (x y : Bool) → ((x ⊕ y) && b) ≡ (x && b) ⊕ (y && b)
      right_and = tested (bit ∷ bit ∷ bit ∷ []) bit _ _ tt

      self : (b : Bool) → b ⊕ (b && true) ≡ false
      self = tested (bit ∷ []) bit _ _ tt

      go : (j : ℕ) → j < suc k → (b : Bool) → eqb j k ≡ b → odd_number (λ i. d.c i && v i j) m ⊕ (t && v p j) ≡ false
      go j h true e = rw (eqb-true j k e, vp) (self t)
      go j h false e =
          ap (λ b. odd_number (λ i. d.c i && v i j) m ⊕ b) (sum-map false ◌⊕◌ false ◌⊕◌ (λ b. b && v p j) refl (right_and (v p j)) (λ i. d.c i && v i k) m)
          ∙ sym (sum-plus xor_adds _ _ m) ∙ sum-cong xor_adds _ _ m (λ i hi. sym (spread (d.c i) (v i j) (v i k) (v p j))) ∙ d.zeros j (omega (arith, eqb-false j k e))

dependent : (k m : ℕ) (alive : ℕ → Bool) (v : ℕ → ℕ → Bool) → k < count alive m → Dependence k m alive v
dependent zero m alive v h = first m alive v h (lowest alive m) (lowest_is alive m)
dependent (suc k) m alive v h = go (dependent k m) (lowest (λ i. alive i && v i k) m) (lowest_is (λ i. alive i && v i k) m)
  where
    go : ((alive : ℕ → Bool) (v : ℕ → ℕ → Bool) → k < count alive m → Dependence k m alive v) → (o : Option ℕ) → Answer (λ i. alive i && v i k) m o → Dependence (suc k) m alive v
    go ih None l = skip k m alive v l (ih alive v (omega arith))
    go ih (Some p) l =
        let e = both (alive p) (v p k) l.passes in
        pivot k m p alive v l.below e.0 e.1 (ih (without p alive) (cleared k m p alive v) (omega (arith, count_less alive p m l.below e.0)))

count_all : (m : ℕ) → count (λ i. true) m ≡ m
count_all zero = refl
count_all (suc m) = omega (arith, count_all m)

no_bits : (l : Letter) → x l ≡ false → z l ≡ false → l ≡ I
no_bits l p q = sym (letter_bits l) ∙ rw (p, q)

module _ (n : ℕ) (rows : ℕ → Row) where
  -- a bit of a product is the exclusive or of those of the chosen
  product-bit : (f : Letter → Bool) → f I ≡ false → ((l m : Letter) → f (l · m) ≡ f l ⊕ f m) → (c : Choice) (k b : ℕ) → f ((chosen_product n rows c k).letters b) ≡ odd_number (λ i. c i && f ((rows i).letters b)) k
  product-bit f e m c zero b = e
  product-bit f e m c (suc k) b = go (c k) ∙ ap (λ a. a ⊕ (c k && f ((rows k).letters b))) (product-bit f e m c k b)
    where
      go : (a : Bool) → f ((cond a (product n (chosen_product n rows c k) (phased (rows k))) (chosen_product n rows c k)).letters b) ≡ f ((chosen_product n rows c k).letters b) ⊕ (a && f ((rows k).letters b))
      go true = m ((chosen_product n rows c k).letters b) ((rows k).letters b)
      go false = sym (xor_adds.right _)

  -- the x bits of the n qubits, then their z bits
  cell : ℕ → ℕ → Bool
  cell i j = cond (ltb j n) (x ((rows i).letters j)) (z ((rows i).letters (j - n)))

  pub record Dependent-rows (m : ℕ) : Type 0 where
    pub choice : Choice
    pub number : ℕ
    pub below : number < m
    pub used : choice number ≡ true
    pub nothing : OnlyI n (chosen_product n rows choice m).letters

  pub dependent_rows : (m : ℕ) → n + n < m → Dependent-rows m
  unfolding cell
  dependent_rows m h = record { choice = d.c; number = d.i; below = d.below; used = d.used; nothing = λ b hb. no_bits _ (product-bit x refl x_mul d.c m b ∙ at_x b hb) (product-bit z refl z_mul d.c m b ∙ at_z b hb) }
    where
      d : Dependence (n + n) m (λ i. true) cell
      d = dependent (n + n) m (λ i. true) cell (omega (arith, count_all m))

      x_mul : (l m : Letter) → x (l · m) ≡ x l ⊕ x m
      x_mul = tested (ltr ∷ ltr ∷ []) bit _ _ tt

      z_mul : (l m : Letter) → z (l · m) ≡ z l ⊕ z m
      z_mul = tested (ltr ∷ ltr ∷ []) bit _ _ tt

      at_x : (b : ℕ) → b < n → odd_number (λ i. d.c i && x ((rows i).letters b)) m ≡ false
      at_x b hb = sum-cong xor_adds _ _ m (λ i hi. rw (lt-ltb b n hb)) ∙ d.zeros b (omega arith)

      at_z : (b : ℕ) → b < n → odd_number (λ i. d.c i && z ((rows i).letters b)) m ≡ false
      at_z b hb =
          let e : n + b - n ≡ b = omega arith in
          sum-cong xor_adds _ _ m (λ i hi. rw (le-ltb (n + b) n (omega arith), e)) ∙ d.zeros (n + b) (omega arith)
