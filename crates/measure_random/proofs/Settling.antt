-- Z on one qubit with the coin's sign, in a row that is all I. Assumes nothing.
use mathlib.Core.Path.{◌≡◌, refl, sym, ap, ap₂, ◌∙◌}
use mathlib.Core.Bool.{Bool, true, false, ◌&&◌, cond}
use mathlib.Core.List.{List}
use mathlib.Core.Logic.{◌≢◌}
use Prim.Native.Nat.{ℕ, ◌+◌, ◌*◌, ◌≤◌, ◌<◌}
use native.Mathlib.Omega.{arith}
use lib.Dec.{eqb}
use Rattle.std.proofs.lemmas.Bool.Decides.{nat_tests}
use borrow.Author.Tests.{eqb-true, eqb-false}
use Rattle.limits.specs.Limits.{most_qubits}
use Rattle.pauli.specs.Letters.{Letter, Z, I, x, z, letter, ◌⊕◌}
use Rattle.pauli.specs.Rows.{Letters, Row}
use Rattle.pauli.proofs.LetterLaws.{xor_adds, x_letter, z_letter}
use Rattle.clifford.specs.Tableau.{blank}
use Rattle.clifford.specs.Measurement.{settled}
use Rattle.packing.specs.View.{row_count, sign_words, bit_at, letter_at, row_at}
use Rattle.packing.specs.Parts.Changes.{Changed}
use Rattle.packing.proofs.Groups.{elsewhere, beside_signs}
use Rattle.packing.proofs.Views.{row_eq, guard, guard_in, guard_out, guarded}
use Rattle.measure_random.specs.Parts.Settled.{Settled}

-- the z words of a are replaced, and then the signs
module _ {f g : ℕ → Bool} {w u v : List ℕ} (a : ℕ) (al : a < most_qubits) (t : ℕ → Bool) (coin : Bool) (c : Changed (8 * a + 4) f w u) (d : Changed sign_words g u v)
    (ef : (s : ℕ) → s < row_count → f s ≡ bit_at w (8 * a + 4) s ⊕ t s) (eg : (s : ℕ) → s < row_count → g s ≡ bit_at w sign_words s ⊕ (t s && coin)) where
  pub settled_by : Settled a t coin w v
  settled_by = record {
    words = d.words;
    signs = λ s l. d.bits s l ∙ eg s l;
    here = λ s l. ap₂ letter (beside_signs d (8 * a) s l (omega arith) ∙ elsewhere c (8 * a) s l (λ h. omega arith) (λ h. omega arith)) (beside_signs d (8 * a + 4) s l (omega arith) ∙ c.bits s l ∙ ef s l);
    letters = λ s j l jl e. ap₂ letter (beside_signs d (8 * j) s l (omega arith) ∙ elsewhere c (8 * j) s l (λ h. omega arith) (λ h. omega arith))
        (beside_signs d (8 * j + 4) s l (omega arith) ∙ elsewhere c (8 * j + 4) s l (λ h. omega arith) (λ h. omega arith));
  }

z_turned : (u v : Bool) → letter u v ≡ I → letter u (v ⊕ true) ≡ Z
z_turned u v e = ap₂ (λ (s t : Bool). letter s (t ⊕ true)) (sym (x_letter u v)) (sym (z_letter u v)) ∙ ap (λ (l : Letter). letter (x l) (z l ⊕ true)) e

-- new letters at a, and elsewhere the old ones
at_one : (n : ℕ) (f g : Letters) (a : ℕ) (l : Letter) → a < n → f a ≡ l → ((k : ℕ) → k < n → k ≢ a → f k ≡ g k)
    → (j : ℕ) → guard n f j ≡ cond (eqb j a) l (guard n g j)
at_one n f g a l la e o j = grind (arith, nat_tests, o j)

-- row q, which is all I, becomes Z on a, and the others stay
module _ (n a : ℕ) (t : ℕ → Bool) (coin : Bool) (w v : List ℕ) (q : ℕ) (nl : n ≤ most_qubits) (an : a < n) (st : Settled a t coin w v) (all : row_at n w q ≡ blank) where
  row : (s : ℕ) → s < row_count → t s ≡ eqb s q → (b : Bool) → eqb s q ≡ b → row_at n v s ≡ cond b (settled a coin) (row_at n w s)
  unfolding row_at
  row s l et true e =
      let r : row_at n w s ≡ blank = ap (row_at n w) (eqb-true s q e) ∙ all in
      row_eq _ _ (st.signs s l ∙ ap₂ (λ (m b : Bool). m ⊕ (b && coin)) (ap (λ (u : Row). u.minus) r) (et ∙ e))
      (λ j. at_one n (letter_at v s) (letter_at w s) a Z an
      (st.here s l ∙ ap (λ (b : Bool). letter (bit_at w (8 * a) s) (bit_at w (8 * a + 4) s ⊕ b)) (et ∙ e)
      ∙ z_turned (bit_at w (8 * a) s) (bit_at w (8 * a + 4) s) (sym (guard_in n (letter_at w s) a an) ∙ ap (λ (u : Row). u.letters a) r))
      (λ k kn d. st.letters s k l (omega arith) d) j
      ∙ ap (cond (eqb j a) Z) (ap (λ (u : Row). u.letters j) r))
  row s l et false e =
      row_eq _ _ (st.signs s l ∙ ap (λ (b : Bool). bit_at w sign_words s ⊕ (b && coin)) (et ∙ e) ∙ xor_adds.right _)
      (λ j. guarded n (letter_at v s) j (guard n (letter_at w s) j) (λ h. same j h (eqb j a) refl ∙ sym (guard_in n (letter_at w s) j h)) (λ h. guard_out n (letter_at w s) j h))
    where
      same : (k : ℕ) → k < n → (b : Bool) → eqb k a ≡ b → letter_at v s k ≡ letter_at w s k
      same k kn true f = rw (eqb-true k a f) (st.here s l ∙ ap (λ (b : Bool). letter (bit_at w (8 * a) s) (bit_at w (8 * a + 4) s ⊕ b)) (et ∙ e) ∙ ap (letter (bit_at w (8 * a) s)) (xor_adds.right _))
      same k kn false f = st.letters s k l (omega arith) (eqb-false k a f)

  pub settled_row : (s : ℕ) → s < row_count → t s ≡ eqb s q → row_at n v s ≡ cond (eqb s q) (settled a coin) (row_at n w s)
  settled_row s l et = row s l et (eqb s q) refl
