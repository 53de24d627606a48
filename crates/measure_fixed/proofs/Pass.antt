-- The pass over the columns, of m rows in any number of words: H r is set where row r had an odd number of Y so far, twos where an odd number of
-- twos was met, and the power p has the threes of the columns. Assumes nothing.
use mathlib.Core.Path.{◌≡◌, refl, sym, ap, ap₂, ◌∙◌}
use mathlib.Core.Bool.{Bool, false, ◌&&◌, and-false}
use mathlib.Core.List.{[], ◌∷◌}
use Prim.Native.Nat.{ℕ, zero, suc, ◌<◌, ◌+◌}
use native.Mathlib.Nat.{add-suc, add-zero}
use native.Mathlib.Numerals.{add-one}
use Rattle.pauli.specs.Letters.{Power, i0, ◌⊕◌, ◌⊞◌, sign}
use Rattle.pauli.specs.Rows.{odd_number, sum_powers}
use Rattle.pauli.specs.Sums.{sum}
use Rattle.pauli.proofs.Cases.{tested, bit, pow}
use Rattle.pauli.proofs.Sums.{Adds, sum-cong, sum-plus, sum-zero, sum-map}
use Rattle.pauli.proofs.LetterLaws.{xor_adds, power_adds, add_assoc, sign_plus}
use Rattle.measure_fixed.specs.Parts.Column.{three, by_row, by_column, summed}

-- the first m of a sum, and the next k
pub sum-append : {A : Type 0} {o : A} {plus : A → A → A} (a : Adds o plus) (f : ℕ → A) (m k : ℕ) → sum o plus f (m + k) ≡ plus (sum o plus f m) (sum o plus (λ i. f (m + i)) k)
sum-append {A} {o} {plus} a f m zero = ap (sum o plus f) (add-zero m) ∙ sym (a.right (sum o plus f m))
sum-append {A} {o} {plus} a f m (suc k) =
    ap (sum o plus f) (add-suc m k) ∙ ap (λ (s : A). plus s (f (m + k))) (sum-append a f m k) ∙ assoc (sum o plus f m) (sum o plus (λ i. f (m + i)) k) (f (m + k))
  where
    assoc : (x y z : A) → plus (plus x y) z ≡ plus x (plus y z)
    assoc x y z = ap (plus (plus x y)) (sym (a.left z)) ∙ a.medial x y o z ∙ ap (λ (s : A). plus s (plus y z)) (a.right x)

pub sign_sum : (f : ℕ → Bool) (m : ℕ) → sign (odd_number f m) ≡ sum_powers (λ r. sign (f r)) m
sign_sum f m = sum-map false ◌⊕◌ i0 ◌⊞◌ sign refl sign_plus f m

carry : (h y : Bool) → three (h ⊕ y) ⊞ sign (h && y) ≡ three h ⊞ three y
carry = tested (bit ∷ bit ∷ []) pow _ _ tt

gather : (a : Power) (t h q : Bool) (c u : Power) → a ⊞ (sign (t ⊕ (h ⊕ q)) ⊞ (c ⊞ u)) ≡ a ⊞ sign h ⊞ (sign t ⊞ c ⊞ (sign q ⊞ u))
gather = tested (pow ∷ bit ∷ bit ∷ bit ∷ pow ∷ pow ∷ []) pow _ _ tt

module _ (X Z : ℕ → ℕ → Bool) (S : ℕ → Bool) (m : ℕ) where
  unfoldable pub Passed : (ℕ → Bool) → Bool → Power → ℕ → Type 0
  Passed H t p j = sum_powers (λ r. three (H r)) m ⊞ (sign t ⊞ p) ≡ summed X Z S m j

  pub passed_none : (H : ℕ → Bool) (t : Bool) → ((r : ℕ) → r < m → H r ≡ false) → t ≡ odd_number S m → Passed H t i0 0
  unfolding Passed
  passed_none H t h e =
      (λ k. (sum-cong power_adds _ _ m (λ r l. ap three (h r l)) ∙ sum-zero power_adds m) k ⊞ (sign (e k) ⊞ i0))
      ∙ ap (λ (p : Power). p ⊞ i0) (sign_sum S m ∙ sum-cong power_adds _ _ m (λ r l. sym (power_adds.right (sign (S r)))))

  abbrev ys : ℕ → ℕ → Bool
  ys j r = X j r && Z j r

  abbrev behind : ℕ → ℕ → Bool
  behind j r = odd_number (Z j) (suc r) && X j r

  pub passed_more : (H H' : ℕ → Bool) (t t' : Bool) (p p' : Power) (j : ℕ) → Passed H t p j
      → ((r : ℕ) → r < m → H' r ≡ H r ⊕ (X j r && Z j r))
      → t' ≡ t ⊕ (odd_number (λ r. H r && (X j r && Z j r)) m ⊕ odd_number (λ r. odd_number (Z j) (suc r) && X j r) m)
      → p' ≡ p ⊞ three (odd_number (X j) m && odd_number (Z j) m)
      → Passed H' t' p' (j + 1)
  unfolding Passed
  passed_more H H' t t' p p' j a h et ep =
      let hy = odd_number (λ r. H r && ys j r) m in
      let q = odd_number (behind j) m in
      let u = three (odd_number (X j) m && odd_number (Z j) m) in
      let y = sum_powers (λ r. three (ys j r)) m in
      let s = sum_powers (λ r. three (H r)) m in
      let s' = sum_powers (λ r. three (H' r)) m in
      let rows = sum_powers (by_row X Z S j) m in
      let cols = sum_powers (by_column X Z m) j in
      let one : s' ⊞ sign hy ≡ s ⊞ y
      = ap (λ (v : Power). s' ⊞ v) (sign_sum (λ r. H r && ys j r) m) ∙ sym (sum-plus power_adds _ _ m)
      ∙ sum-cong power_adds _ _ m (λ r l. ap (λ (b : Bool). three b ⊞ sign (H r && ys j r)) (h r l) ∙ carry (H r) (ys j r)) ∙ sum-plus power_adds _ _ m in
      let more_rows : rows ⊞ y ≡ sum_powers (by_row X Z S (j + 1)) m
      = sym (sum-plus power_adds _ _ m)
      ∙ sum-cong power_adds _ _ m (λ r l. add_assoc (sign (S r)) _ _ ∙ ap (λ (k : ℕ). by_row X Z S k r) (sym (add-one j))) in
      let more_cols : cols ⊞ (sign q ⊞ u) ≡ sum_powers (by_column X Z m) (j + 1) = ap (sum_powers (by_column X Z m)) (sym (add-one j)) in
      (λ k. s' ⊞ (sign (et k) ⊞ ep k)) ∙ gather s' t hy q p u
      ∙ ap (λ (v : Power). v ⊞ (sign t ⊞ p ⊞ (sign q ⊞ u))) one
      ∙ power_adds.medial s y (sign t ⊞ p) (sign q ⊞ u)
      ∙ ap (λ (v : Power). v ⊞ (y ⊞ (sign q ⊞ u))) a
      ∙ power_adds.medial rows cols y (sign q ⊞ u)
      ∙ ap₂ ◌⊞◌ more_rows more_cols

  -- a column with no x
  pub passed_over : (H : ℕ → Bool) (t : Bool) (p : Power) (j : ℕ) → Passed H t p j → ((r : ℕ) → r < m → X j r ≡ false) → Passed H t p (j + 1)
  passed_over H t p j a e =
      passed_more H H t t p p j a (λ r l. sym (ap (λ (b : Bool). H r ⊕ (b && Z j r)) (e r l) ∙ xor_adds.right (H r)))
      (sym (ap₂ (λ (u v : Bool). t ⊕ (u ⊕ v))
      (sum-cong xor_adds _ _ m (λ r l. ap (λ (b : Bool). H r && (b && Z j r)) (e r l) ∙ and-false (H r)) ∙ sum-zero xor_adds m)
      (sum-cong xor_adds _ _ m (λ r l. ap (λ (b : Bool). odd_number (Z j) (suc r) && b) (e r l) ∙ and-false (odd_number (Z j) (suc r))) ∙ sum-zero xor_adds m)
      ∙ xor_adds.right t))
      (sym (ap (λ (b : Bool). p ⊞ three (b && odd_number (Z j) m)) (sum-cong xor_adds _ _ m (λ r l. e r l) ∙ sum-zero xor_adds m) ∙ power_adds.right p))
