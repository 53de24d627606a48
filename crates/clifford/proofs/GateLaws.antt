-- Every gate keeps the commutation of every two rows, and respects row products, signs and powers of i included. Assumes nothing.
use mathlib.Core.Path.{◌≡◌, refl, sym, ◌∙◌, ap}
use mathlib.Core.Bool.{Bool, true, false, cond}
use mathlib.Core.List.{List, [], ◌∷◌}
use Prim.Native.Nat.{ℕ}
use lib.Dec.{eqb}
use borrow.Author.Tests.{eqb-true}
use Rattle.pauli.specs.Letters.{Letter, Power, i0, i1, i2, i3, ◌⊕◌, ◌⊞◌, sign, odd, ◌·◌, power}
use Rattle.pauli.specs.Rows.{Letters, anticommute, total, mul, Phased, product, Row, phased}
use Rattle.pauli.proofs.Cases.{Kind, tested, bit, ltr, pow}
use Rattle.pauli.proofs.Sums.{sum-at, sum-at₂}
use Rattle.pauli.proofs.LetterLaws.{power_adds, sign_plus}
use Rattle.pauli.proofs.RowLaws.{total_odd}
use Rattle.clifford.specs.declared.One.{One}
use Rattle.clifford.specs.declared.One.TheVariants.{H, S, PauliX, PauliY, PauliZ}
use Rattle.clifford.specs.declared.Two.{Two}
use Rattle.clifford.specs.declared.Two.TheVariants.{Cx, Cz}
use Rattle.clifford.specs.declared.Gate.{Gate}
use Rattle.clifford.specs.declared.Gate.TheVariants.{One as one, Two as two}
use Rattle.clifford.specs.Gates.{turns₁, new₁, turns₂, new_a, new_b, turns, new, Fits, gate, gate_phased}

abbrev l2 : List Kind
l2 = ltr ∷ ltr ∷ []

abbrev l4 : List Kind
l4 = ltr ∷ ltr ∷ ltr ∷ ltr ∷ []

-- the letters: a gate on one
power₁ : (g : One) (a b : Letter) → power (new₁ g a) (new₁ g b) ≡ power a b ⊞ sign (turns₁ g (a · b) ⊕ turns₁ g a ⊕ turns₁ g b)
power₁ = elim [ H ↦ tested l2 pow _ _ tt | S ↦ tested l2 pow _ _ tt | PauliX ↦ tested l2 pow _ _ tt | PauliY ↦ tested l2 pow _ _ tt | PauliZ ↦ tested l2 pow _ _ tt ]

mul₁ : (g : One) (a b : Letter) → new₁ g (a · b) ≡ new₁ g a · new₁ g b
mul₁ = elim [ H ↦ tested l2 ltr _ _ tt | S ↦ tested l2 ltr _ _ tt | PauliX ↦ tested l2 ltr _ _ tt | PauliY ↦ tested l2 ltr _ _ tt | PauliZ ↦ tested l2 ltr _ _ tt ]

-- a gate on two: `a` and `c` are the one row's, `b` and `d` the other's
power₂ : (g : Two) (a b c d : Letter) → power (new_a g a c) (new_a g b d) ⊞ power (new_b g a c) (new_b g b d)
    ≡ power a b ⊞ power c d ⊞ sign (turns₂ g (a · b) (c · d) ⊕ turns₂ g a c ⊕ turns₂ g b d)
power₂ = elim [ Cx ↦ tested l4 pow _ _ tt | Cz ↦ tested l4 pow _ _ tt ]

mul_a : (g : Two) (a b c d : Letter) → new_a g (a · b) (c · d) ≡ new_a g a c · new_a g b d
mul_a = elim [ Cx ↦ tested l4 ltr _ _ tt | Cz ↦ tested l4 ltr _ _ tt ]

mul_b : (g : Two) (a b c d : Letter) → new_b g (a · b) (c · d) ≡ new_b g a c · new_b g b d
mul_b = elim [ Cx ↦ tested l4 ltr _ _ tt | Cz ↦ tested l4 ltr _ _ tt ]

abbrev minus_p : Power → Power
minus_p i0 = i0
minus_p i1 = i3
minus_p i2 = i2
minus_p i3 = i1

change_a : (p q : Power) → p ≡ q ⊞ (p ⊞ minus_p q) ⊞ i0
change_a = tested (pow ∷ pow ∷ []) pow _ _ tt

change_b : (p q : Power) → p ≡ q ⊞ i0 ⊞ (p ⊞ minus_p q)
change_b = tested (pow ∷ pow ∷ []) pow _ _ tt

keep : (q : Power) → q ≡ q ⊞ i0 ⊞ i0
keep = tested (pow ∷ []) pow _ _ tt

collect : (t p q p' q' : Power) → t ⊞ (p' ⊞ minus_p p) ⊞ (q' ⊞ minus_p q) ≡ t ⊞ ((p' ⊞ q') ⊞ minus_p (p ⊞ q))
collect = tested (pow ∷ pow ∷ pow ∷ pow ∷ pow ∷ []) pow _ _ tt

cancel : (t p u : Power) → t ⊞ (p ⊞ u ⊞ minus_p p) ≡ t ⊞ u
cancel = tested (pow ∷ pow ∷ pow ∷ []) pow _ _ tt

pub total_new : (n : ℕ) (g : Gate) → Fits n g → (r t : Letters) → total n (new g r) (new g t) ≡ total n r t ⊞ sign (turns g (mul r t) ⊕ turns g r ⊕ turns g t)
total_new n (one g a) f r t = sum-at power_adds _ _ _ a n f (λ i. go i (eqb i a) refl)
  where
    u : Power
    u = sign (turns₁ g (r a · t a) ⊕ turns₁ g (r a) ⊕ turns₁ g (t a))

    go : (i : ℕ) (b : Bool) → eqb i a ≡ b → power (cond b (new₁ g (r a)) (r i)) (cond b (new₁ g (t a)) (t i)) ≡ power (r i) (t i) ⊞ cond b u i0
    go i true e = rw (eqb-true i a e) (power₁ g (r a) (t a))
    go i false e = sym (power_adds.right _)
total_new n (two g a b) f r t =
    sum-at₂ power_adds _ _ u v a b n f.0 f.1 (λ i. go i (eqb i a) (eqb i b) refl refl)
    ∙ collect (total n r t) (power (r a) (t a)) (power (r b) (t b)) pa pb
    ∙ rw (power₂ g (r a) (t a) (r b) (t b)) (cancel (total n r t) (power (r a) (t a) ⊞ power (r b) (t b)) _)
  where
    pa : Power
    pa = power (new_a g (r a) (r b)) (new_a g (t a) (t b))

    pb : Power
    pb = power (new_b g (r a) (r b)) (new_b g (t a) (t b))

    u : Power
    u = pa ⊞ minus_p (power (r a) (t a))

    v : Power
    v = pb ⊞ minus_p (power (r b) (t b))

    go : (i : ℕ) (c d : Bool) → eqb i a ≡ c → eqb i b ≡ d
        → power (cond c (new_a g (r a) (r b)) (cond d (new_b g (r a) (r b)) (r i))) (cond c (new_a g (t a) (t b)) (cond d (new_b g (t a) (t b)) (t i))) ≡ power (r i) (t i) ⊞ cond c u i0 ⊞ cond d v i0
    go i true true e k = absurd (f.2 (sym (eqb-true i a e) ∙ eqb-true i b k))
    go i true false e k = rw (eqb-true i a e) (change_a pa (power (r a) (t a)))
    go i false true e k = rw (eqb-true i b k) (change_b pb (power (r b) (t b)))
    go i false false e k = keep (power (r i) (t i))

-- what commutes, commutes after a gate
pub anticommute-new : (n : ℕ) (g : Gate) → Fits n g → (r t : Letters) → anticommute n (new g r) (new g t) ≡ anticommute n r t
anticommute-new n g f r t =
    sym (total_odd n (new g r) (new g t)) ∙ ap odd (total_new n g f r t) ∙ even (total n r t) (turns g (mul r t) ⊕ turns g r ⊕ turns g t) ∙ total_odd n r t
  where
    even : (p : Power) (b : Bool) → odd (p ⊞ sign b) ≡ odd p
    even = tested (pow ∷ bit ∷ []) bit _ _ tt

pub new_mul : (g : Gate) (r t : Letters) (i : ℕ) → new g (mul r t) i ≡ new g r i · new g t i
new_mul (one g a) r t i = go (eqb i a)
  where
    go : (b : Bool) → cond b (new₁ g (r a · t a)) (r i · t i) ≡ cond b (new₁ g (r a)) (r i) · cond b (new₁ g (t a)) (t i)
    go true = mul₁ g (r a) (t a)
    go false = refl
new_mul (two g a b) r t i = go (eqb i a) (eqb i b)
  where
    go : (c d : Bool) → cond c (new_a g (r a · t a) (r b · t b)) (cond d (new_b g (r a · t a) (r b · t b)) (r i · t i))
        ≡ cond c (new_a g (r a) (r b)) (cond d (new_b g (r a) (r b)) (r i)) · cond c (new_a g (t a) (t b)) (cond d (new_b g (t a) (t b)) (t i))
    go true d = mul_a g (r a) (t a) (r b) (t b)
    go false true = mul_b g (r a) (t a) (r b) (t b)
    go false false = refl

-- a gate is multiplicative, signs and sum-powers of i included
pub gate_product : (n : ℕ) (g : Gate) → Fits n g → (r t : Phased) → gate_phased g (product n r t) ≡ product n (gate_phased g r) (gate_phased g t)
gate_product n g f r t =
    let e : r.phase ⊞ t.phase ⊞ total n r.letters t.letters ⊞ sign (turns g (mul r.letters t.letters)) ≡ r.phase ⊞ sign (turns g r.letters) ⊞ (t.phase ⊞ sign (turns g t.letters)) ⊞ total n (new g r.letters) (new g t.letters)
    = rw (total_new n g f r.letters t.letters) (law r.phase t.phase (total n r.letters t.letters) (turns g r.letters) (turns g t.letters) (turns g (mul r.letters t.letters))) in
    λ i. record { phase = e i; letters = λ j. new_mul g r.letters t.letters j i }
  where
    law : (p q u : Power) (a b c : Bool) → p ⊞ q ⊞ u ⊞ sign c ≡ p ⊞ sign a ⊞ (q ⊞ sign b) ⊞ (u ⊞ sign (c ⊕ a ⊕ b))
    law = tested (pow ∷ pow ∷ pow ∷ bit ∷ bit ∷ bit ∷ []) pow _ _ tt

-- a row's gate is that of its letters with the power of its sign
pub gate_row : (g : Gate) (r : Row) → phased (gate g r) ≡ gate_phased g (phased r)
gate_row g r = λ i. record { phase = sign_plus r.minus (turns g r.letters) i; letters = new g r.letters }
