-- What fixed means, of any properly paired tableau: the three statements of request m, and that the measurement rule finds a qubit fixed at a value exactly when Z
-- there, with that sign, is a product of stabilizer rows. Assumes nothing.
use mathlib.Core.Path.{◌≡◌, refl, sym, ◌∙◌, ap, ap₂}
use mathlib.Core.Bool.{Bool, true, false, cond, true≢false}
use mathlib.Core.Logic.{◌⊎◌, inl, inr, ◌↔◌}
use Prim.Native.Nat.{ℕ, ◌+◌, ◌-◌, ◌<◌}
use native.Mathlib.Omega.{arith}
use lib.Dec.{ltb}
use borrow.Author.Tests.{ltb-false}
use Rattle.answers.proofs.First.{lowest_none, none_passes}
use Rattle.pauli.specs.Letters.{I, Z}
use Rattle.pauli.specs.Rows.{Row, anticommute, minus_sign}
use Rattle.choices.specs.Choices.{identity, chosen_product, ProductOf}
use Rattle.choices.proofs.Products.{product-cong, product-none}
use Rattle.clifford.specs.Tableau.{Rows, Paired, alone, numbered}
use Rattle.clifford.specs.Measurement.{has_x, settled, fixed_value}
use Rattle.clifford.specs.Generators.{tableau_of, minus_identity, Generators, FixedAt}
use Rattle.clifford.proofs.Pairing.{anticommute-z}
use Rattle.clifford.proofs.Partners.{numbered_low, numbered_high, none_chosen}
use Rattle.clifford.proofs.Generating.{Commutes, made_minus, product-exactly}

-- where no row is in, the product is plus the identity
identity_product : (n : ℕ) (rows : ℕ → Row) (k : ℕ) → ProductOf n rows k (record { minus = false; letters = λ j. I })
identity_product n rows k = record { choice = λ i. false; letters = λ b h. ap (λ q. q.letters b) e; power = ap (λ q. q.phase) e }
  where
    e : chosen_product n rows (λ i. false) k ≡ identity
    e = product-none n rows (λ i. false) k (λ i h. refl)

module _ (n a : ℕ) (t : Rows) (ha : a < n) (p : Paired n t) where
  abbrev NoX : Type 0
  NoX = (i : ℕ) → i < n → has_x a (t.stabilizer i) ≡ false

  commutes_z : NoX → Commutes n t (alone Z a)
  commutes_z f i h = anticommute-z n a (t.stabilizer i).letters ha ∙ f i h

  z_commutes : Commutes n t (alone Z a) → NoX
  z_commutes k i h = sym (anticommute-z n a (t.stabilizer i).letters ha) ∙ k i h

  -- the stabilizers that the measurement rule multiplies are those whose partners anticommute with Z on a
  gathered_sign : made_minus n t (alone Z a) ≡ fixed_value n a t
  gathered_sign = λ k. minus_sign (chosen_product n t.stabilizer (λ i. anticommute-z n a (t.destabilizer i).letters ha k) n).phase

  -- the measurement rule finds a fixed at m exactly when Z on a with that sign is a product of stabilizer rows
  pub fixed_at_exactly : (m : Bool) → FixedAt n a t m ↔ ProductOf n t.stabilizer n (settled a m)
  fixed_at_exactly m = (forth, back)
    where
      forth : FixedAt n a t m → ProductOf n t.stabilizer n (settled a m)
      forth f = (product-exactly n t p (settled a m)).1 (commutes_z (none_passes (λ i. has_x a (t.stabilizer i)) n f.fixed), sym f.is ∙ sym gathered_sign)

      back : ProductOf n t.stabilizer n (settled a m) → FixedAt n a t m
      back g =
          let k = (product-exactly n t p (settled a m)).0 g in
          record { fixed = lowest_none (λ i. has_x a (t.stabilizer i)) n (z_commutes k.0); is = sym gathered_sign ∙ sym k.1 }

  no_x_exactly : NoX ↔ (ProductOf n t.stabilizer n (settled a false) ⊎ ProductOf n t.stabilizer n (settled a true))
  no_x_exactly = (λ f. forth (fixed_value n a t) ((fixed_at_exactly (fixed_value n a t)).0 (record { fixed = lowest_none (λ i. has_x a (t.stabilizer i)) n f; is = refl })), back)
    where
      forth : (m : Bool) → ProductOf n t.stabilizer n (settled a m) → ProductOf n t.stabilizer n (settled a false) ⊎ ProductOf n t.stabilizer n (settled a true)
      forth false g = inl g
      forth true g = inr g

      back : ProductOf n t.stabilizer n (settled a false) ⊎ ProductOf n t.stabilizer n (settled a true) → NoX
      back (inl g) = z_commutes ((product-exactly n t p (settled a false)).0 g).0
      back (inr g) = z_commutes ((product-exactly n t p (settled a true)).0 g).0

-- no two rows of different signs and the same letters are both products of stabilizer rows
one_sign : (n : ℕ) (t : Rows) → Paired n t → (r s : Row) → r.letters ≡ s.letters → ProductOf n t.stabilizer n r → ProductOf n t.stabilizer n s → r.minus ≡ s.minus
one_sign n t p r s e g h = ((product-exactly n t p r).0 g).1 ∙ ap (made_minus n t) e ∙ sym ((product-exactly n t p s).0 h).1

-- rows in order whose tableau is properly paired
rows_generators : (n : ℕ) (rows : ℕ → Row) → Paired n (tableau_of n rows) → Generators n rows
rows_generators n rows p = record {
  independent = λ c i h u e. true≢false (sym u ∙ none_chosen n t p c (λ b hb. ap (λ q. q.letters b) (product-cong n (numbered n t) rows c c (n + n) in_order (λ j l. refl)) ∙ e b hb) i h);
  no_minus = λ g. true≢false (one_sign n t p minus_identity (record { minus = false; letters = λ j. I }) refl g (identity_product n t.stabilizer n));
  fixed = λ a ha. record {
    exactly = no_x_exactly n a t ha p;
    not_both = λ g h. true≢false (one_sign n t p (settled a true) (settled a false) refl h g);
    outcome = λ m. ((fixed_at_exactly n a t ha p m).1, (fixed_at_exactly n a t ha p m).0);
  };
}
  where
    t : Rows
    t = tableau_of n rows

    in_order : (i : ℕ) → i < n + n → numbered n t i ≡ rows i
    in_order i h = go (ltb i n) refl
      where
        go : (b : Bool) → ltb i n ≡ b → cond b (rows i) (rows (n + (i - n))) ≡ rows i
        go true e = refl
        go false e = let u : n + (i - n) ≡ i = omega (arith, ltb-false i n e) in ap rows u

-- pairing reads the first n of each
paired_cong : (n : ℕ) (t u : Rows) → ((i : ℕ) → i < n → t.destabilizer i ≡ u.destabilizer i) → ((i : ℕ) → i < n → t.stabilizer i ≡ u.stabilizer i) → Paired n t → Paired n u
paired_cong n t u d s p = record {
  destabilizers = λ i j hi hj. both (d i hi) (d j hj) ∙ p.destabilizers i j hi hj;
  stabilizers = λ i j hi hj. both (s i hi) (s j hj) ∙ p.stabilizers i j hi hj;
  partners = λ i j hi hj. both (d i hi) (s j hj) ∙ p.partners i j hi hj;
}
  where
    both : {q q' r r' : Row} → q ≡ q' → r ≡ r' → anticommute n q'.letters r'.letters ≡ anticommute n q.letters r.letters
    both e f = sym (ap₂ (λ (v w : Row). anticommute n v.letters w.letters) e f)

-- 2n rows that are, in their order, those of a properly paired tableau
pub in_order_generators : (n : ℕ) (t : Rows) (rows : ℕ → Row) → ((i : ℕ) → i < n → t.destabilizer i ≡ rows i) → ((i : ℕ) → i < n → t.stabilizer i ≡ rows (n + i)) → Paired n t → Generators n rows
in_order_generators n t rows d s p = rows_generators n rows (paired_cong n t (tableau_of n rows) d s p)

pub paired_generators : (n : ℕ) (t : Rows) → Paired n t → Generators n (numbered n t)
paired_generators n t p = in_order_generators n t (numbered n t) (λ i h. sym (numbered_low n t i h)) (λ i h. sym (numbered_high n t i)) p

-- the same letters with these signs
abbrev pub with_signs : (ℕ → Bool) → (ℕ → Bool) → Rows → Rows
with_signs d s t = record { destabilizer = λ i. record { minus = d i; letters = (t.destabilizer i).letters }; stabilizer = λ i. record { minus = s i; letters = (t.stabilizer i).letters } }

-- pairing reads letters alone, so no signs change any of it
pub any_signs : (n : ℕ) (t : Rows) (d s : ℕ → Bool) → Paired n t → Generators n (numbered n (with_signs d s t))
any_signs n t d s p = paired_generators n (with_signs d s t) (record { destabilizers = p.destabilizers; stabilizers = p.stabilizers; partners = p.partners })
