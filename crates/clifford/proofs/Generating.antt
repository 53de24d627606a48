-- In a properly paired tableau a row is a product of stabilizer rows exactly when it commutes with all of them and has the one right sign; the choice is that of
-- the stabilizers whose partners anticommute with it. Assumes nothing.
use mathlib.Core.Path.{◌≡◌, refl, sym, ◌∙◌, ap}
use mathlib.Core.Bool.{Bool, true, false, ◌&&◌, cond, true≢false}
use mathlib.Core.Logic.{◌↔◌}
use mathlib.Core.List.{[], ◌∷◌}
use Prim.Native.Nat.{ℕ, suc, ◌+◌, ◌-◌, ◌<◌}
use native.Mathlib.Decide.{dec_lt}
use native.Mathlib.Omega.{arith}
use lib.Dec.{eqb, ltb}
use borrow.Author.Tests.{ltb-true, ltb-false, lt-ltb, le-ltb, eq-eqb, ne_eqb}
use Rattle.pauli.specs.Letters.{Letter, I, ◌⊕◌, sign, ◌·◌}
use Rattle.pauli.specs.Rows.{Letters, anticommute, odd_number, mul, Row, phased, minus_sign}
use Rattle.pauli.proofs.Cases.{tested, bit, ltr}
use Rattle.pauli.proofs.Sums.{eqb_swap}
use Rattle.pauli.proofs.LetterLaws.{sign_back}
use Rattle.pauli.proofs.RowLaws.{anticommute-swap, anticommute-mul}
use Rattle.choices.specs.Choices.{Choice, chosen_product, OnlyI, ProductOf}
use Rattle.choices.proofs.Products.{anticommute-cong, only_I_commutes, only, product-cong, product-one, anticommute-product, product-commutes, product-sign}
use Rattle.choices.proofs.Dependent.{Dependent-rows, dependent_rows}
use Rattle.clifford.specs.Tableau.{Rows, Paired, numbered}
use Rattle.clifford.proofs.Partners.{partner, against_partner}

-- letters that commute with the partner of every row are only I: with the 2n rows they are one row too many to be independent
module _ (n : ℕ) (t : Rows) (p : Paired n t) (w : Letters) (commutes : (j : ℕ) → j < n + n → anticommute n w (partner n t j).letters ≡ false) where
  abbrev with_w : ℕ → Row
  with_w i = cond (ltb i (n + n)) (numbered n t i) (record { minus = false; letters = w })

  last : with_w (n + n) ≡ record { minus = false; letters = w }
  last = rw (le-ltb (n + n) (n + n) (omega arith))

  d : Dependent-rows n with_w (suc (n + n))
  d = dependent_rows n with_w (suc (n + n)) (omega arith)

  others_out : (j : ℕ) → j < n + n → d.choice j ≡ false
  others_out j hj =
      sym (only (n + n) d.choice (λ i. anticommute n (with_w i).letters v) j hj (λ i hi. rw (lt-ltb i (n + n) hi) (against_partner n t p i j hi hj)))
      ∙ sym (law (odd_number (λ i. d.choice i && anticommute n (with_w i).letters v) (n + n)) (d.choice (n + n)) (anticommute n (with_w (n + n)).letters v) (ap (λ (r : Row). anticommute n r.letters v) last ∙ commutes j hj))
      ∙ sym (anticommute-product n with_w d.choice v (suc (n + n))) ∙ only_I_commutes n (chosen_product n with_w d.choice (suc (n + n))).letters v d.nothing
    where
      v : Letters
      v = (partner n t j).letters

      law : (a b c : Bool) → c ≡ false → a ⊕ (b && c) ≡ a
      law a b c e = rw e (plain a b)
        where
          plain : (a b : Bool) → a ⊕ (b && false) ≡ a
          plain = tested (bit ∷ bit ∷ []) bit _ _ tt

  w_in : (i : ℕ) → i < suc (n + n) → d.choice i ≡ eqb i (n + n)
  w_in i hi = go (dec_lt i (n + n))
    where
      at_end : Dec (d.number < n + n) → d.choice (n + n) ≡ true
      at_end (yes l) = absurd (true≢false (sym d.used ∙ others_out d.number l))
      at_end (no l) = let u : n + n ≡ d.number = omega (arith, d.below) in ap d.choice u ∙ d.used

      go : Dec (i < n + n) → d.choice i ≡ eqb i (n + n)
      go (yes l) = others_out i l ∙ sym (ne_eqb i (n + n) (λ e. omega arith))
      go (no l) = let u : i ≡ n + n = omega arith in ap d.choice u ∙ at_end (dec_lt d.number (n + n)) ∙ sym (eq-eqb i (n + n) u)

  pub commuting_only_I : OnlyI n w
  commuting_only_I b h = sym (ap (λ q. q.letters b) just_w) ∙ d.nothing b h
    where
      just_w : chosen_product n with_w d.choice (suc (n + n)) ≡ phased (record { minus = false; letters = w })
      just_w = product-cong n with_w with_w d.choice (λ i. eqb i (n + n)) (suc (n + n)) (λ i hi. refl) w_in ∙ product-one n with_w (n + n) (suc (n + n)) (omega arith) ∙ ap phased last

-- the letters w commute with every stabilizer
abbrev pub Commutes : ℕ → Rows → Letters → Type 0
Commutes n t w = (i : ℕ) → i < n → anticommute n (t.stabilizer i).letters w ≡ false

-- the stabilizers whose partners anticommute with w, and the sign of their product
abbrev pub against : ℕ → Rows → Letters → Choice
against n t w = λ i. anticommute n (t.destabilizer i).letters w

abbrev pub made_minus : ℕ → Rows → Letters → Bool
made_minus n t w = minus_sign (chosen_product n t.stabilizer (against n t w) n).phase

module _ (n : ℕ) (t : Rows) (p : Paired n t) where
  -- which stabilizers are in a product is told by what it anticommutes with
  choice_told : (c : Choice) (i : ℕ) → i < n → anticommute n (chosen_product n t.stabilizer c n).letters (t.destabilizer i).letters ≡ c i
  choice_told c i h =
      anticommute-product n t.stabilizer c (t.destabilizer i).letters n
      ∙ only n c (λ j. anticommute n (t.stabilizer j).letters (t.destabilizer i).letters) i h (λ j hj. anticommute-swap n (t.stabilizer j).letters (t.destabilizer i).letters ∙ p.partners i j h hj ∙ eqb_swap i j)

  stabilizers_commute : (c : Choice) (i : ℕ) → i < n → anticommute n (chosen_product n t.stabilizer c n).letters (t.stabilizer i).letters ≡ false
  stabilizers_commute c i h = product-commutes n t.stabilizer c (t.stabilizer i).letters n (λ j hj. p.stabilizers j i hj h)

  -- what commutes with every stabilizer is made of them
  letters_made : (w : Letters) → Commutes n t w → (b : ℕ) → b < n → (chosen_product n t.stabilizer (against n t w) n).letters b ≡ w b
  letters_made w k b h = cancel (made b) (w b) (commuting_only_I n t p (mul made w) (λ j hj. anticommute-mul n made w (partner n t j).letters ∙ both j hj (ltb j n) refl) b h)
    where
      made : Letters
      made = (chosen_product n t.stabilizer (against n t w) n).letters

      same : (a : Bool) → a ⊕ a ≡ false
      same = tested (bit ∷ []) bit _ _ tt

      both : (j : ℕ) → j < n + n → (c : Bool) → ltb j n ≡ c
          → anticommute n made (cond c (t.stabilizer j) (t.destabilizer (j - n))).letters ⊕ anticommute n w (cond c (t.stabilizer j) (t.destabilizer (j - n))).letters ≡ false
      both j hj true e = rw (stabilizers_commute (against n t w) j (ltb-true j n e), anticommute-swap n w (t.stabilizer j).letters, k j (ltb-true j n e))
      both j hj false e = rw (choice_told (against n t w) (j - n) (omega (arith, ltb-false j n e)), anticommute-swap n w (t.destabilizer (j - n)).letters) (same (anticommute n (t.destabilizer (j - n)).letters w))

      cancel : (l m : Letter) → l · m ≡ I → l ≡ m
      cancel l m e = sym (twice l m) ∙ ap (λ k. k · m) e ∙ left m
        where
          twice : (l m : Letter) → l · m · m ≡ l
          twice = tested (ltr ∷ ltr ∷ []) ltr _ _ tt

          left : (l : Letter) → I · l ≡ l
          left = tested (ltr ∷ []) ltr _ _ tt

  generates : (r : Row) → Commutes n t r.letters → r.minus ≡ made_minus n t r.letters → ProductOf n t.stabilizer n r
  generates r k e = record {
    choice = against n t r.letters;
    letters = letters_made r.letters k;
    power = product-sign n t.stabilizer (against n t r.letters) n p.stabilizers ∙ ap sign (sym e);
  }

  product-commutes_all : (r : Row) → ProductOf n t.stabilizer n r → Commutes n t r.letters
  product-commutes_all r g i h =
      anticommute-swap n (t.stabilizer i).letters r.letters ∙ sym (anticommute-cong n (chosen_product n t.stabilizer g.choice n).letters r.letters (t.stabilizer i).letters g.letters) ∙ stabilizers_commute g.choice i h

  product-minus : (r : Row) → ProductOf n t.stabilizer n r → r.minus ≡ made_minus n t r.letters
  product-minus r g =
      sym (sign_back r.minus) ∙ ap minus_sign (sym g.power)
      ∙ ap (λ q. minus_sign q.phase) (product-cong n t.stabilizer t.stabilizer g.choice (against n t r.letters) n (λ i h. refl) known)
    where
      known : (i : ℕ) → i < n → g.choice i ≡ against n t r.letters i
      known i h =
          sym (choice_told g.choice i h) ∙ anticommute-cong n (chosen_product n t.stabilizer g.choice n).letters r.letters (t.destabilizer i).letters g.letters ∙ anticommute-swap n r.letters (t.destabilizer i).letters

  pub product-exactly : (r : Row) → ProductOf n t.stabilizer n r ↔ (Commutes n t r.letters × (r.minus ≡ made_minus n t r.letters))
  product-exactly r = (λ g. (product-commutes_all r g, product-minus r g), λ k. generates r k.0 k.1)
