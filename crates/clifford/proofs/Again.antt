-- A qubit that has just been measured has a fixed measurement at the value it showed, and X on it turns that value over. Assumes nothing.
use mathlib.Core.Path.{◌≡◌, refl, sym, ◌∙◌, ap, ap₂}
use mathlib.Core.Bool.{Bool, true, false, not, cond}
use mathlib.Core.List.{[], ◌∷◌}
use Prim.Native.Nat.{ℕ, zero, suc, ◌<◌}
use lib.Dec.{eqb}
use borrow.Author.Tests.{eq-eqb}
use Rattle.answers.proofs.First.{lowest_none}
use Rattle.pauli.specs.Letters.{Letter, I, ◌⊕◌, x, ◌·◌, i0, ◌⊞◌, sign}
use Rattle.pauli.specs.Rows.{Row, product, phased, minus_sign, times_row}
use Rattle.pauli.proofs.Cases.{tested, bit, ltr, pow}
use Rattle.pauli.proofs.LetterLaws.{sign_back}
use Rattle.choices.specs.Choices.{Choice, chosen_product, ProductOf}
use Rattle.choices.proofs.Products.{product-cong, product-one}
use Rattle.clifford.specs.declared.One.TheVariants.{PauliX}
use Rattle.clifford.specs.declared.Gate.{Gate}
use Rattle.clifford.specs.declared.Gate.TheVariants.{One as one}
use Rattle.clifford.specs.Gates.{gate_phased}
use Rattle.clifford.specs.Tableau.{Rows, Paired, gated}
use Rattle.clifford.specs.Measurement.{has_x, cleared, settled, collapsed, gathered}
use Rattle.clifford.specs.Generators.{FixedAt}
use Rattle.clifford.proofs.GateLaws.{gate_product, gate_row}
use Rattle.clifford.proofs.Afterwards.{x_letters}
use Rattle.clifford.proofs.Pairing.{gate_paired}
use Rattle.clifford.proofs.Fixed.{fixed_at_exactly}

-- the random measurement of a by row p leaves X or Y on a to no row but p's partner
module _ (n a p : ℕ) (coin : Bool) (t : Rows) (has : has_x a (t.stabilizer p) ≡ true) where
  abbrev after : Rows
  after = collapsed n a p coin t

  none_cleared : (r : Row) → has_x a (cleared n a (t.stabilizer p) r) ≡ false
  none_cleared r = go (has_x a r) refl
    where
      both : (k l : Letter) → x (k · l) ≡ x k ⊕ x l
      both = tested (ltr ∷ ltr ∷ []) bit _ _ tt

      go : (b : Bool) → has_x a r ≡ b → has_x a (cond b (times_row n r (t.stabilizer p)) r) ≡ false
      go true e = both (r.letters a) ((t.stabilizer p).letters a) ∙ rw (e, has)
      go false e = e

  stabilizers_none : (i : ℕ) → has_x a (after.stabilizer i) ≡ false
  stabilizers_none i = go (eqb i p)
    where
      go : (b : Bool) → has_x a (cond b (settled a coin) (cleared n a (t.stabilizer p) (t.stabilizer i))) ≡ false
      go true = rw (eq-eqb a a refl)
      go false = none_cleared (t.stabilizer i)

  partner_only : (i : ℕ) → has_x a (after.destabilizer i) ≡ eqb i p
  partner_only i = go (eqb i p)
    where
      go : (b : Bool) → has_x a (cond b (t.stabilizer p) (cleared n a (t.stabilizer p) (t.destabilizer i))) ≡ b
      go true = has
      go false = none_cleared (t.destabilizer i)

  pub random_again : p < n → FixedAt n a after coin
  random_again h = record { fixed = lowest_none _ n (λ i _. stabilizers_none i); is = ap (λ q. minus_sign q.phase) just_p ∙ sign_back coin }
    where
      -- so that row p alone is multiplied
      just_p : gathered n a after n ≡ phased (settled a coin)
      just_p =
          product-cong n after.stabilizer after.stabilizer (λ i. has_x a (after.destabilizer i)) (λ i. eqb i p) n (λ i _. refl) (λ i _. partner_only i)
          ∙ product-one n after.stabilizer p n h ∙ ap (λ b. phased (cond b (settled a coin) (cleared n a (t.stabilizer p) (t.stabilizer p)))) (eq-eqb p p refl)

-- X on a goes through a product of rows, and turns the sign of Z on a over
module _ (n a : ℕ) (t : Rows) (ha : a < n) where
  abbrev flip : Gate
  flip = one PauliX a

  product-flipped : (c : Choice) (k : ℕ) → chosen_product n (gated flip t).stabilizer c k ≡ gate_phased flip (chosen_product n t.stabilizer c k)
  product-flipped c zero = λ i. record { phase = i0; letters = sym (x_letters a (λ j. I)) i }
  product-flipped c (suc k) = go (c k) (product-flipped c k)
    where
      go : (b : Bool) → chosen_product n (gated flip t).stabilizer c k ≡ gate_phased flip (chosen_product n t.stabilizer c k)
          → cond b (product n (chosen_product n (gated flip t).stabilizer c k) (phased ((gated flip t).stabilizer k))) (chosen_product n (gated flip t).stabilizer c k)
          ≡ gate_phased flip (cond b (product n (chosen_product n t.stabilizer c k) (phased (t.stabilizer k))) (chosen_product n t.stabilizer c k))
      go true e = ap₂ (product n) e (gate_row flip (t.stabilizer k)) ∙ sym (gate_product n flip ha (chosen_product n t.stabilizer c k) (phased (t.stabilizer k)))
      go false e = e

  pub flipped_again : (value : Bool) → Paired n t → FixedAt n a t value → FixedAt n a (gated flip t) (not value)
  flipped_again value k f = (fixed_at_exactly n a (gated flip t) ha (gate_paired n flip t ha k) (not value)).1 turned
    where
      g : ProductOf n t.stabilizer n (settled a value)
      g = (fixed_at_exactly n a t ha k value).0 f

      law : (b : Bool) → sign b ⊞ sign true ≡ sign (not b)
      law = tested (bit ∷ []) pow _ _ tt

      turned : ProductOf n (gated flip t).stabilizer n (settled a (not value))
      turned = record {
        choice = g.choice;
        letters = λ b h. ap (λ q. q.letters b) (product-flipped g.choice n) ∙ ap (λ l. l b) (x_letters a (chosen_product n t.stabilizer g.choice n).letters) ∙ g.letters b h;
        power = ap (λ q. q.phase) (product-flipped g.choice n) ∙ rw (g.power, g.letters a ha, eq-eqb a a refl) (law value);
      }
