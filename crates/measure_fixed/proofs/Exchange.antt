-- An ordered product of rows, summed by columns: the power of i that `gathered` has, in terms of the bits of the rows taken. Assumes nothing.
use mathlib.Core.Path.{◌≡◌, refl, sym, ap, ap₂, ◌∙◌}
use mathlib.Core.Bool.{Bool, true, false, cond, ◌&&◌}
use mathlib.Core.List.{[], ◌∷◌}
use Prim.Native.Nat.{ℕ, zero, suc, ◌≤◌, ◌<◌}
use native.Mathlib.Omega.{arith}
use Rattle.pauli.specs.Letters.{Letter, I, Power, i0, ◌⊕◌, letter, ◌⊞◌, sign, ◌·◌, power}
use Rattle.pauli.specs.Rows.{odd_number, sum_powers, Phased, product, Row, phased}
use Rattle.pauli.proofs.Cases.{tested, bit, ltr, pow}
use Rattle.pauli.proofs.Sums.{sum-cong, sum-plus, sum-zero}
use Rattle.pauli.proofs.LetterLaws.{power_adds, add_assoc}
use Rattle.clifford.specs.Tableau.{Rows}
use Rattle.clifford.specs.Measurement.{has_x, gathered}
use Rattle.measure_fixed.specs.Parts.Column.{three, by_row, by_column, summed}

-- ---- one more row, taken or not

alone : (p : Power) → p ≡ p ⊞ (i0 ⊞ i0)
alone = tested (pow ∷ []) pow _ _ tt

power_I : (l : Letter) → power l I ≡ i0
power_I = tested (ltr ∷ []) pow _ _ tt

times_I : (l : Letter) → l ≡ l · I
times_I = tested (ltr ∷ []) ltr _ _ tt

step_phase : (b : Bool) (n : ℕ) (g : Phased) (r : Row)
    → (cond b (product n g (phased r)) g).phase ≡ g.phase ⊞ (sign (b && r.minus) ⊞ sum_powers (λ j. power (g.letters j) (cond b (r.letters j) I)) n)
step_phase true n g r = add_assoc g.phase (sign r.minus) _
step_phase false n g r =
    alone g.phase ∙ ap (λ (p : Power). g.phase ⊞ (i0 ⊞ p)) (sym (sum-cong power_adds _ _ n (λ j h. power_I (g.letters j)) ∙ sum-zero power_adds n))

step_letter : (b : Bool) (n : ℕ) (g : Phased) (r : Row) (j : ℕ) → (cond b (product n g (phased r)) g).letters j ≡ g.letters j · cond b (r.letters j) I
step_letter true n g r j = refl
step_letter false n g r j = times_I (g.letters j)

-- ---- one more letter in a column, the product so far being a b

more_letter : (a b u v : Bool) → letter a b · letter u v ≡ letter (a ⊕ u) (b ⊕ v)
more_letter = tested (bit ∷ bit ∷ bit ∷ bit ∷ []) ltr _ _ tt

more_power : (o a b u v : Bool) → sign o ⊞ three (a && b) ⊞ power (letter a b) (letter u v) ≡ three (u && v) ⊞ (sign (o ⊕ ((b ⊕ v) && u)) ⊞ three ((a ⊕ u) && (b ⊕ v)))
more_power = tested (bit ∷ bit ∷ bit ∷ bit ∷ bit ∷ []) pow _ _ tt

regroup : (r c s t y d : Power) → c ⊞ t ≡ y ⊞ d → r ⊞ c ⊞ (s ⊞ t) ≡ r ⊞ (s ⊞ y) ⊞ d
regroup r c s t y d e = rw (left_side r c s t, e) (sym (right_side r s y d))
  where
    left_side : (r c s t : Power) → r ⊞ c ⊞ (s ⊞ t) ≡ r ⊞ s ⊞ (c ⊞ t)
    left_side = tested (pow ∷ pow ∷ pow ∷ pow ∷ []) pow _ _ tt

    right_side : (r s y d : Power) → r ⊞ (s ⊞ y) ⊞ d ≡ r ⊞ s ⊞ (y ⊞ d)
    right_side = tested (pow ∷ pow ∷ pow ∷ pow ∷ []) pow _ _ tt

-- ---- all rows: X j r and Z j r are the bits of row r on qubit j if it is taken, and S r its sign

module _ (X Z : ℕ → ℕ → Bool) (S : ℕ → Bool) (n : ℕ) where
  record Joined (p : Phased) (k : ℕ) : Type 0 where
    all : (j : ℕ) → j < n → p.letters j ≡ letter (odd_number (X j) k) (odd_number (Z j) k)
    whole : p.phase ≡ (sum_powers (by_row X Z S n) k ⊞ sum_powers (by_column X Z k) n)

  module _ (a m : ℕ) (t : Rows)
      (signs : (r : ℕ) → r < m → (has_x a (t.destabilizer r) && (t.stabilizer r).minus) ≡ S r)
      (bits : (r j : ℕ) → r < m → j < n → cond (has_x a (t.destabilizer r)) ((t.stabilizer r).letters j) I ≡ letter (X j r) (Z j r)) where
    more : (k : ℕ) → k < m → Joined (gathered n a t k) k → Joined (gathered n a t (suc k)) (suc k)
    more k h i =
        let g = gathered n a t k in
        let b = has_x a (t.destabilizer k) in
        let q = t.stabilizer k in
        let w = sum_powers (λ j. power (letter (odd_number (X j) k) (odd_number (Z j) k)) (letter (X j k) (Z j k))) n in
        let y = sum_powers (λ j. three (X j k && Z j k)) n in
        let e : sum_powers (λ j. power (g.letters j) (cond b (q.letters j) I)) n ≡ w
        = sum-cong power_adds _ _ n (λ j l. ap₂ power (i.all j l) (bits k j h l)) in
        let f : sum_powers (by_column X Z k) n ⊞ w ≡ y ⊞ sum_powers (by_column X Z (suc k)) n
        = sym (sum-plus power_adds _ _ n)
        ∙ sum-cong power_adds _ _ n (λ j l. more_power (odd_number (λ r. odd_number (Z j) (suc r) && X j r) k) (odd_number (X j) k) (odd_number (Z j) k) (X j k) (Z j k))
        ∙ sum-plus power_adds _ _ n in
        record {
          all = λ j l. step_letter b n g q j ∙ ap₂ ◌·◌ (i.all j l) (bits k j h l) ∙ more_letter (odd_number (X j) k) (odd_number (Z j) k) (X j k) (Z j k);
          whole = step_phase b n g q ∙ (λ u. i.whole u ⊞ (sign (signs k h u) ⊞ e u)) ∙ regroup (sum_powers (by_row X Z S n) k) (sum_powers (by_column X Z k) n) (sign (S k)) w y (sum_powers (by_column X Z (suc k)) n) f;
        }

    nothing : (n : ℕ) → i0 ≡ i0 ⊞ sum_powers (λ j. i0) n
    nothing n = sym (sum-zero power_adds n)

    joined : (k : ℕ) → k ≤ m → Joined (gathered n a t k) k
    joined zero h = record { all = λ j l. refl; whole = nothing n }
    joined (suc k) h = more k (omega arith) (joined k (omega arith))

    pub exchanged : (gathered n a t m).phase ≡ summed X Z S m n
    exchanged = (joined m (omega arith)).whole
