-- The 2n rows of a tableau by their numbers: in a properly paired one, row j alone anticommutes with the partner of row j, so that no product over a choice with a
-- row in it has only I letters. Assumes nothing.
use mathlib.Core.Path.{◌≡◌, refl, sym, ◌∙◌, ap}
use mathlib.Core.Bool.{Bool, true, false, cond}
use Prim.Native.Nat.{ℕ, ◌+◌, ◌-◌, ◌<◌}
use native.Mathlib.Omega.{arith}
use lib.Dec.{eqb, ltb}
use borrow.Author.Tests.{ltb-true, ltb-false, lt-ltb, le-ltb, eqb-true, eqb-false, eq-eqb, ne_eqb}
use Rattle.pauli.specs.Rows.{Row, anticommute}
use Rattle.pauli.proofs.RowLaws.{anticommute-swap}
use Rattle.choices.specs.Choices.{Choice, chosen_product, OnlyI}
use Rattle.choices.proofs.Products.{only, only_I_commutes, anticommute-product}
use Rattle.clifford.specs.Tableau.{Rows, Paired, numbered}

pub numbered_low : (n : ℕ) (t : Rows) (i : ℕ) → i < n → numbered n t i ≡ t.destabilizer i
numbered_low n t i l = rw (lt-ltb i n l)

pub numbered_high : (n : ℕ) (t : Rows) (i : ℕ) → numbered n t (n + i) ≡ t.stabilizer i
numbered_high n t i =
    let e : n + i - n ≡ i = omega arith in
    rw (le-ltb (n + i) n (omega arith), e)

-- the partner of row j
abbrev pub partner : ℕ → Rows → ℕ → Row
partner n t j = cond (ltb j n) (t.stabilizer j) (t.destabilizer (j - n))

pub against_partner : (n : ℕ) (t : Rows) → Paired n t → (i j : ℕ) → i < n + n → j < n + n → anticommute n (numbered n t i).letters (partner n t j).letters ≡ eqb i j
against_partner n t p i j hi hj = go (ltb i n) (ltb j n) refl refl
  where
    go : (a b : Bool) → ltb i n ≡ a → ltb j n ≡ b
        → anticommute n (cond a (t.destabilizer i) (t.stabilizer (i - n))).letters (cond b (t.stabilizer j) (t.destabilizer (j - n))).letters ≡ eqb i j
    go true true e f = p.partners i j (ltb-true i n e) (ltb-true j n f)
    go true false e f = p.destabilizers i (j - n) (ltb-true i n e) (omega (arith, ltb-false j n f)) ∙ sym (ne_eqb i j (λ u. omega (arith, ltb-true i n e, ltb-false j n f)))
    go false true e f = p.stabilizers (i - n) j (omega (arith, ltb-false i n e)) (ltb-true j n f) ∙ sym (ne_eqb i j (λ u. omega (arith, ltb-false i n e, ltb-true j n f)))
    go false false e f =
        anticommute-swap n (t.stabilizer (i - n)).letters (t.destabilizer (j - n)).letters
        ∙ p.partners (j - n) (i - n) (omega (arith, ltb-false j n f)) (omega (arith, ltb-false i n e)) ∙ same (eqb (j - n) (i - n)) refl
      where
        same : (b : Bool) → eqb (j - n) (i - n) ≡ b → b ≡ eqb i j
        same true u = sym (eq-eqb i j (omega (arith, eqb-true (j - n) (i - n) u, ltb-false i n e, ltb-false j n f)))
        same false u = sym (ne_eqb i j (λ v. eqb-false (j - n) (i - n) u (ap (λ k. k - n) (sym v))))

pub none_chosen : (n : ℕ) (t : Rows) → Paired n t → (c : Choice) → OnlyI n (chosen_product n (numbered n t) c (n + n)).letters → (j : ℕ) → j < n + n → c j ≡ false
none_chosen n t p c e j hj =
    sym (only (n + n) c (λ i. anticommute n (numbered n t i).letters (partner n t j).letters) j hj (λ i hi. against_partner n t p i j hi hj))
    ∙ sym (anticommute-product n (numbered n t) c (partner n t j).letters (n + n)) ∙ only_I_commutes n (chosen_product n (numbered n t) c (n + n)).letters (partner n t j).letters e
