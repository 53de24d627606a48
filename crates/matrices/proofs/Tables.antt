-- The tables of products and of gates stand on the matrices: one test over all letters, computed, and one law that makes it an equation. Assumes nothing.
use mathlib.Core.Path.{◌≡◌, refl, sym, ap, ap₂}
use mathlib.Core.Bool.{Bool, true, false, ◌&&◌, true≢false}
use mathlib.Core.List.{List, [], ◌∷◌}
use lib.Dec.{eqb}
use lib.IntN.{ℤ, pos, negsuc}
use borrow.Author.Tests.{eqb-true}
use Rattle.pauli.specs.Letters.{Letter, ◌·◌, power, sign}
use Rattle.pauli.proofs.Cases.{tested, bit, ltr}
use Rattle.pauli.proofs.LetterLaws.{both}
use Rattle.clifford.specs.declared.One.{One}
use Rattle.clifford.specs.declared.One.TheVariants.{H, S, PauliX, PauliY, PauliZ}
use Rattle.clifford.specs.declared.Two.{Two}
use Rattle.clifford.specs.declared.Two.TheVariants.{Cx, Cz}
use Rattle.clifford.specs.Gates.{turns₁, new₁, turns₂, new_a, new_b}
use Rattle.matrices.specs.Matrices.{Gaussian, Matrix, scale, matrix_times, kron, unit, matrix, gate₁, gate₂}

abbrev same_number : ℤ → ℤ → Bool
same_number (pos m) (pos n) = eqb m n
same_number (pos m) (negsuc n) = false
same_number (negsuc m) (pos n) = false
same_number (negsuc m) (negsuc n) = eqb m n

abbrev same_entry : Gaussian → Gaussian → Bool
same_entry a b = same_number a.re b.re && same_number a.im b.im

abbrev same_list : {A : Type 0} → (A → A → Bool) → List A → List A → Bool
same_list f [] [] = true
same_list f [] (b ∷ s) = false
same_list f (a ∷ r) [] = false
same_list f (a ∷ r) (b ∷ s) = f a b && same_list f r s

abbrev same : Matrix → Matrix → Bool
same = same_list (same_list same_entry)

number_sound : (a b : ℤ) → same_number a b ≡ true → a ≡ b
number_sound (pos m) (pos n) e = ap pos (eqb-true m n e)
number_sound (pos m) (negsuc n) e = absurd (true≢false (sym e))
number_sound (negsuc m) (pos n) e = absurd (true≢false (sym e))
number_sound (negsuc m) (negsuc n) e = ap negsuc (eqb-true m n e)

entry_sound : (a b : Gaussian) → same_entry a b ≡ true → a ≡ b
entry_sound a b e =
    let p = both (same_number a.re b.re) (same_number a.im b.im) e in
    λ j. record { re = number_sound a.re b.re p.0 j; im = number_sound a.im b.im p.1 j }

list_sound : {A : Type 0} (f : A → A → Bool) → ((a b : A) → f a b ≡ true → a ≡ b) → (r s : List A) → same_list f r s ≡ true → r ≡ s
list_sound f k [] [] e = refl
list_sound f k [] (b ∷ s) e = absurd (true≢false (sym e))
list_sound f k (a ∷ r) [] e = absurd (true≢false (sym e))
list_sound f k (a ∷ r) (b ∷ s) e =
    let p = both (f a b) (same_list f r s) e in
    ap₂ ◌∷◌ (k a b p.0) (list_sound f k r s p.1)

sound : (m p : Matrix) → same m p ≡ true → m ≡ p
sound = list_sound (same_list same_entry) (list_sound same_entry entry_sound)

-- the sixteen products: each product of two letters' matrices is the power of i times the matrix of the product letter
products_hold : (a b : Letter) → same (matrix_times (matrix a) (matrix b)) (scale (unit (power a b)) (matrix (a · b))) ≡ true
products_hold = tested (ltr ∷ ltr ∷ []) bit _ _ tt

pub letter_products : (a b : Letter) → matrix_times (matrix a) (matrix b) ≡ scale (unit (power a b)) (matrix (a · b))
letter_products a b = sound _ _ (products_hold a b)

-- the gates: U P is P' U with its sign, for each letter or pair of letters P and its image P'
one_holds : (g : One) (l : Letter) → same (matrix_times (gate₁ g) (matrix l)) (scale (unit (sign (turns₁ g l))) (matrix_times (matrix (new₁ g l)) (gate₁ g))) ≡ true
one_holds = elim [ H ↦ tested (ltr ∷ []) bit _ _ tt | S ↦ tested (ltr ∷ []) bit _ _ tt | PauliX ↦ tested (ltr ∷ []) bit _ _ tt | PauliY ↦ tested (ltr ∷ []) bit _ _ tt | PauliZ ↦ tested (ltr ∷ []) bit _ _ tt ]

pub one_qubit_gates : (g : One) (l : Letter) → matrix_times (gate₁ g) (matrix l) ≡ scale (unit (sign (turns₁ g l))) (matrix_times (matrix (new₁ g l)) (gate₁ g))
one_qubit_gates g l = sound _ _ (one_holds g l)

two_holds : (g : Two) (a b : Letter)
    → same (matrix_times (gate₂ g) (kron (matrix a) (matrix b))) (scale (unit (sign (turns₂ g a b))) (matrix_times (kron (matrix (new_a g a b)) (matrix (new_b g a b))) (gate₂ g))) ≡ true
two_holds = elim [ Cx ↦ tested (ltr ∷ ltr ∷ []) bit _ _ tt | Cz ↦ tested (ltr ∷ ltr ∷ []) bit _ _ tt ]

pub two_qubit_gates : (g : Two) (a b : Letter)
    → matrix_times (gate₂ g) (kron (matrix a) (matrix b)) ≡ scale (unit (sign (turns₂ g a b))) (matrix_times (kron (matrix (new_a g a b)) (matrix (new_b g a b))) (gate₂ g))
two_qubit_gates g a b = sound _ _ (two_holds g a b)
