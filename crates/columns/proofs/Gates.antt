-- A gate on the sign and the letters of each row is the gate on the tableau, and sets nothing from row n or qubit n on. Assumes nothing.
use mathlib.Core.Path.{◌≡◌, refl, sym, ap, ap₂, ◌∙◌, subst}
use mathlib.Core.Bool.{Bool, false, cond}
use mathlib.Core.List.{List}
use Prim.Native.Nat.{ℕ, ◌+◌, ◌≤◌, ◌<◌}
use native.Mathlib.Omega.{arith}
use lib.Dec.{eqb}
use borrow.Author.Tests.{ne_eqb}
use Rattle.limits.specs.Limits.{most_qubits}
use Rattle.pauli.specs.Letters.{Letter, I, ◌⊕◌}
use Rattle.pauli.specs.Rows.{Letters}
use Rattle.clifford.specs.declared.One.{One}
use Rattle.clifford.specs.declared.One.TheVariants.{H, S, PauliX, PauliY, PauliZ}
use Rattle.clifford.specs.declared.Two.TheVariants.{Cx, Cz}
use Rattle.clifford.specs.declared.Gate.{Gate}
use Rattle.clifford.specs.declared.Gate.TheVariants.{One as one, Two as two}
use Rattle.clifford.specs.Gates.{turns₁, new₁, turns₂, new_a, new_b, turns, new, gate, Fits}
use Rattle.clifford.specs.Tableau.{blank}
use Rattle.packing.specs.View.{row_count, sign_words, Words, bit_at, letter_at, row_at, rows_from}
use Rattle.columns.specs.Parts.Gated.{Gated}
use Rattle.packing.proofs.Views.{cond_same, row_eq, guard, guard_in, guard_out, guarded, rows_in, rows_out, all_rows}

-- no gate changes a row of I with a plus
turns_none : (g : One) → turns₁ g I ≡ false
turns_none H = refl
turns_none S = refl
turns_none PauliX = refl
turns_none PauliY = refl
turns_none PauliZ = refl

new_none : (g : One) → new₁ g I ≡ I
new_none H = refl
new_none S = refl
new_none PauliX = refl
new_none PauliY = refl
new_none PauliZ = refl

pub gate_blank : (g : Gate) → gate g blank ≡ blank
gate_blank (one g a) = row_eq _ _ (turns_none g) (λ j. ap (λ (l : Letter). cond (eqb j a) l I) (new_none g) ∙ cond_same (eqb j a) I)
gate_blank (two Cx a b) = row_eq _ _ refl (λ j. ap (cond (eqb j a) I) (cond_same (eqb j b) I) ∙ cond_same (eqb j a) I)
gate_blank (two Cz a b) = row_eq _ _ refl (λ j. ap (cond (eqb j a) I) (cond_same (eqb j b) I) ∙ cond_same (eqb j a) I)

pub fits_more : (g : Gate) (n m : ℕ) → n ≤ m → Fits n g → Fits m g
fits_more (one g a) n m h f = omega arith
fits_more (two g a b) n m h f = (omega arith, omega arith, f.2)

-- a gate reads and writes the first n letters alone
turns_guard : (g : Gate) (n : ℕ) (f : Letters) → Fits n g → turns g f ≡ turns g (guard n f)
turns_guard (one g a) n f h = ap (turns₁ g) (sym (guard_in n f a h))
turns_guard (two g a b) n f h = ap₂ (turns₂ g) (sym (guard_in n f a h.0)) (sym (guard_in n f b h.1))

new_in : (g : Gate) (n : ℕ) (f : Letters) → Fits n g → (j : ℕ) → j < n → new g (guard n f) j ≡ new g f j
new_in (one g a) n f h j l = λ i. cond (eqb j a) (new₁ g (guard_in n f a h i)) (guard_in n f j l i)
new_in (two g a b) n f h j l = λ i. cond (eqb j a) (new_a g (guard_in n f a h.0 i) (guard_in n f b h.1 i))
    (cond (eqb j b) (new_b g (guard_in n f a h.0 i) (guard_in n f b h.1 i)) (guard_in n f j l i))

new_away : (g : Gate) (n : ℕ) (f : Letters) → Fits n g → (j : ℕ) → n ≤ j → new g f j ≡ f j
new_away (one g a) n f h j l = rw (ne_eqb j a (λ e. omega arith))
new_away (two g a b) n f h j l = rw (ne_eqb j a (λ e. omega (arith, h.0)), ne_eqb j b (λ e. omega (arith, h.1)))

module _ (g : Gate) (w w' : List ℕ) (lw : Words w')
    (signs : (s : ℕ) → s < row_count → bit_at w' sign_words s ≡ bit_at w sign_words s ⊕ turns g (letter_at w s))
    (letters : (s j : ℕ) → s < row_count → j < most_qubits → letter_at w' s j ≡ new g (letter_at w s) j) where
  row : (n s : ℕ) → n ≤ most_qubits → Fits n g → s < row_count → row_at n w' s ≡ gate g (row_at n w s)
  unfolding row_at
  row n s h f l =
      row_eq _ _ (signs s l ∙ ap (λ (b : Bool). bit_at w sign_words s ⊕ b) (turns_guard g n (letter_at w s) f))
      (λ j. guarded n (letter_at w' s) j _ (λ b. letters s j l (omega arith) ∙ sym (new_in g n (letter_at w s) f j b))
      (λ b. new_away g n (guard n (letter_at w s)) f j b ∙ guard_out n (letter_at w s) j b))

  rows : (n o i : ℕ) → n ≤ most_qubits → o ≤ most_qubits → Fits n g → rows_from n o w' i ≡ gate g (rows_from n o w i)
  rows n o i h ho f =
      all_rows n o w' (λ k. gate g (rows_from n o w k)) (λ k l. row n (o + k) h f (omega arith) ∙ ap (gate g) (sym (rows_in n o w k l)))
      (λ k l. ap (gate g) (rows_out n o w k l) ∙ gate_blank g) i

  pub gated_by : Gated g w w'
  gated_by = record {
    words = lw;
    rows = λ n h f. λ k. record { destabilizer = λ i. rows n 0 i h (omega arith) f k; stabilizer = λ i. rows n most_qubits i h (omega arith) f k };
    holds = λ n h f a. record {
      words = lw;
      rows = λ s l b. row n s h f l ∙ ap (gate g) (a.rows s l b) ∙ gate_blank g;
      letters = λ s j l b c. letters s j l c ∙ new_away g n (letter_at w s) f j b ∙ a.letters s j l b c;
    };
  }

-- a gate that is given as itself
pub as_given : (k : One) (a : ℕ) (w v : List ℕ) → (g : One) × (g ≡ k) × Gated (one g a) w v → Gated (one k a) w v
as_given k a w v h = subst (λ (g : One). Gated (one g a) w v) h.1 h.2
