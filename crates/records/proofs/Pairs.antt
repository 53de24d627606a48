-- No wrong pair is found exactly where the rows are properly paired. Assumes nothing.
use mathlib.Core.Path.{◌≡◌, refl, sym, ◌∙◌, ap, ap₂}
use mathlib.Core.Bool.{Bool, true, false, ◌&&◌, true≢false}
use Rattle.std.specs.Prelude.{Option, None, Some}
use Prim.Native.Nat.{ℕ, ◌+◌, ◌-◌, ◌<◌}
use native.Mathlib.Decide.{dec_lt}
use native.Mathlib.Omega.{arith}
use lib.Dec.{eqb}
use borrow.Author.Tests.{lt-ltb, le-ltb, eq-eqb, ne_eqb, eqb-true, eqb-false}
use Rattle.answers.specs.First.{lowest}
use Rattle.answers.proofs.First.{lowest_none, none_passes}
use Rattle.pauli.specs.Letters.{◌⊕◌}
use Rattle.pauli.specs.Rows.{Letters, anticommute}
use Rattle.pauli.proofs.RowLaws.{anticommute-self, anticommute-swap}
use Rattle.clifford.specs.Tableau.{Rows, Paired, numbered}
use Rattle.clifford.proofs.Partners.{numbered_low, numbered_high}
use Rattle.std.specs.Prelude.{is_some}
use Rattle.records.specs.Reading.{wrong_pair, first_wrong}

pub xor_same : (a b : Bool) → a ≡ b → a ⊕ b ≡ false
xor_same true true e = refl
xor_same true false e = absurd (true≢false e)
xor_same false b e = sym e

pub same_xor : (a b : Bool) → a ⊕ b ≡ false → a ≡ b
same_xor true true e = refl
same_xor true false e = absurd (true≢false e)
same_xor false b e = sym e

none_found : (o : Option ℕ) → is_some o ≡ false → o ≡ None
none_found None e = refl
none_found (Some k) e = absurd (true≢false e)

module _ (n : ℕ) (t : Rows) where
  abbrev crossed : ℕ → ℕ → Bool
  crossed i j = anticommute n (numbered n t i).letters (numbered n t j).letters

  abbrev Right : Type 0
  Right = (i j : ℕ) → i < n + n → j < n + n → wrong_pair n t i j ≡ false

  right_none : Right → first_wrong n t ≡ None
  unfolding first_wrong
  right_none r = lowest_none _ (n + n) (λ i l. ap is_some (lowest_none (wrong_pair n t i) (n + n) (λ j k. r i j l k)))

  none_right : first_wrong n t ≡ None → Right
  unfolding first_wrong
  none_right e i j l k =
      none_passes (wrong_pair n t i) (n + n) (none_found (lowest (wrong_pair n t i) (n + n)) (none_passes (λ i. is_some (lowest (wrong_pair n t i) (n + n))) (n + n) e i l)) j k

  -- rows that are no partners commute, and partners do not
  lower : (i j : ℕ) → i < j → crossed i j ≡ eqb j (n + i) → wrong_pair n t i j ≡ false
  lower i j l e = ap (λ b. b && (crossed i j ⊕ eqb j (n + i))) (lt-ltb i j l) ∙ xor_same (crossed i j) (eqb j (n + i)) e

  crossed_lower : (i j : ℕ) → i < j → wrong_pair n t i j ≡ false → crossed i j ≡ eqb j (n + i)
  crossed_lower i j l e = same_xor (crossed i j) (eqb j (n + i)) (ap (λ b. b && (crossed i j ⊕ eqb j (n + i))) (sym (lt-ltb i j l)) ∙ e)

  low_low : (i j : ℕ) → i < n → j < n → crossed i j ≡ anticommute n (t.destabilizer i).letters (t.destabilizer j).letters
  low_low i j l k = ap₂ (λ r s. anticommute n r.letters s.letters) (numbered_low n t i l) (numbered_low n t j k)

  low_high : (i j : ℕ) → i < n → crossed i (n + j) ≡ anticommute n (t.destabilizer i).letters (t.stabilizer j).letters
  low_high i j l = ap₂ (λ r s. anticommute n r.letters s.letters) (numbered_low n t i l) (numbered_high n t j)

  high_high : (i j : ℕ) → crossed (n + i) (n + j) ≡ anticommute n (t.stabilizer i).letters (t.stabilizer j).letters
  high_high i j = ap₂ (λ r s. anticommute n r.letters s.letters) (numbered_high n t i) (numbered_high n t j)

  partner : (i j : ℕ) → eqb (n + j) (n + i) ≡ eqb i j
  partner i j = go (eqb i j) refl
    where
      go : (b : Bool) → eqb i j ≡ b → eqb (n + j) (n + i) ≡ b
      go true e = eq-eqb (n + j) (n + i) (omega (arith, eqb-true i j e))
      go false e = ne_eqb (n + j) (n + i) (λ h. eqb-false i j e (omega arith))

  paired_right : Paired n t → Right
  paired_right p i j l k = go (dec_lt i n) (dec_lt j n) (dec_lt i j)
    where
      go : Dec (i < n) → Dec (j < n) → Dec (i < j) → wrong_pair n t i j ≡ false
      go a b (no c) = ap (λ b. b && (crossed i j ⊕ eqb j (n + i))) (le-ltb i j (omega arith))
      go (yes a) (yes b) (yes c) = lower i j c (low_low i j a b ∙ p.destabilizers i j a b ∙ sym (ne_eqb j (n + i) (λ h. omega arith)))
      go (yes a) (no b) (yes c) =
          let e : n + (j - n) ≡ j = omega arith in
          lower i j c (ap (crossed i) (sym e) ∙ low_high i (j - n) a ∙ p.partners i (j - n) a (omega arith) ∙ sym (partner i (j - n)) ∙ ap (λ m. eqb m (n + i)) e)
      go (no a) (yes b) (yes c) = absurd (omega arith)
      go (no a) (no b) (yes c) =
          let d : n + (i - n) ≡ i = omega arith in
          let e : n + (j - n) ≡ j = omega arith in
          lower i j c (ap₂ crossed (sym d) (sym e) ∙ high_high (i - n) (j - n) ∙ p.stabilizers (i - n) (j - n) (omega arith) (omega arith) ∙ sym (ne_eqb j (n + i) (λ h. omega arith)))

  right_paired : Right → Paired n t
  right_paired r = record {
    destabilizers = λ i j l k. both (λ i. (t.destabilizer i).letters) (λ i j l k h. sym (low_low i j l k) ∙ crossed_lower i j h (r i j (omega arith) (omega arith)) ∙ ne_eqb j (n + i) (λ e. omega arith)) i j l k;
    stabilizers = λ i j l k. both (λ i. (t.stabilizer i).letters) (λ i j l k h. sym (high_high i j) ∙ crossed_lower (n + i) (n + j) (omega arith) (r (n + i) (n + j) (omega arith) (omega arith)) ∙ ne_eqb (n + j) (n + (n + i)) (λ e. omega arith)) i j l k;
    partners = λ i j l k. sym (low_high i j l) ∙ crossed_lower i (n + j) (omega arith) (r i (n + j) (omega arith) (omega arith)) ∙ partner i j;
  }
    where
      -- rows that commute one way round commute both ways, and with themselves
      both : (f : ℕ → Letters) → ((i j : ℕ) → i < n → j < n → i < j → anticommute n (f i) (f j) ≡ false) → (i j : ℕ) → i < n → j < n → anticommute n (f i) (f j) ≡ false
      both f h i j l k = go (dec_lt i j) (dec_lt j i)
        where
          go : Dec (i < j) → Dec (j < i) → anticommute n (f i) (f j) ≡ false
          go (yes a) b = h i j l k a
          go (no a) (yes b) = anticommute-swap n (f i) (f j) ∙ h j i k l b
          go (no a) (no b) =
              let e : i ≡ j = omega arith in
              ap (λ m. anticommute n (f m) (f j)) e ∙ anticommute-self n (f j)

  pub paired_none : Paired n t → first_wrong n t ≡ None
  paired_none p = right_none (paired_right p)

  pub none_paired : first_wrong n t ≡ None → Paired n t
  none_paired e = right_paired (none_right e)
