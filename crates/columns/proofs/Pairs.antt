-- The steps of CX and of CZ, put together. Assumes nothing.
use mathlib.Core.Path.{◌≡◌, sym, ap, ap₂, ◌∙◌}
use mathlib.Core.Bool.{Bool, true, false, ◌&&◌, cond}
use mathlib.Core.List.{List, [], ◌∷◌}
use mathlib.Core.Logic.{◌≢◌}
use Prim.Native.Nat.{ℕ, ◌+◌, ◌*◌, ◌%◌, ◌≤◌, ◌<◌}
use native.Mathlib.Omega.{arith}
use Rattle.std.proofs.lemmas.Bool.Decides.{nat_tests}
use Rattle.limits.specs.Limits.{most_qubits}
use Rattle.pauli.specs.Letters.{letter, ◌⊕◌}
use Rattle.pauli.proofs.LetterLaws.{x_letter, z_letter}
use Rattle.pauli.proofs.Cases.{tested, bit as bool}
use denote.Enum.Bare.{sameb}
use Rattle.clifford.specs.contracts.Two.{the_type}
use Rattle.clifford.specs.declared.Two.{Two}
use Rattle.clifford.specs.declared.Two.TheVariants.{Cx, Cz}
use Rattle.clifford.specs.declared.Gate.TheVariants.{Two as two}
use Rattle.clifford.specs.Gates.{turns₂, new_a, new_b, new}
use Rattle.packing.specs.View.{row_count, sign_words, Words, bit_at, letter_at}
use Rattle.packing.specs.Parts.Changes.{Changed}
use Rattle.columns.specs.Parts.Gated.{Gated}
use Rattle.packing.proofs.Groups.{elsewhere, beside_signs}
use Rattle.columns.proofs.Gates.{gated_by}
use Rattle.words.specs.Bit.{bit}
use Rattle.columns.specs.Parts.Picked.{two_turns}

-- a gate on two qubits, of what it does to their letters and to the others
module _ (g : Two) (a b : ℕ) (w w' : List ℕ) (lw : Words w')
    (signs : (s : ℕ) → s < row_count → bit_at w' sign_words s ≡ bit_at w sign_words s ⊕ turns₂ g (letter_at w s a) (letter_at w s b))
    (at_a : (s : ℕ) → s < row_count → letter_at w' s a ≡ new_a g (letter_at w s a) (letter_at w s b))
    (at_b : (s : ℕ) → s < row_count → letter_at w' s b ≡ new_b g (letter_at w s a) (letter_at w s b))
    (others : (s j : ℕ) → s < row_count → j < most_qubits → j ≢ a → j ≢ b → letter_at w' s j ≡ letter_at w s j) where
  letters : (s j : ℕ) → s < row_count → j < most_qubits → letter_at w' s j ≡ new (two g a b) (letter_at w s) j
  letters s j l jl = grind (arith, nat_tests, at_a s l, at_b s l, others s j l jl)

  pub two_gate : Gated (two g a b) w w'
  two_gate = gated_by (two g a b) w w' lw signs letters

-- whether two gates are the same, as the code's `==` tests it
abbrev pub same : Two → Two → Bool
same = sameb the_type

-- CX: the sign turns where x of a and z of b are set and the other bits are the same; CZ: where both x are set and both z differ
abbrev Turned : Two → Bool → Type 0
Turned g c = (s u v p q : Bool) → s ⊕ ((u && cond c q p) && ((v ⊕ cond c p q) ⊕ c)) ≡ s ⊕ turns₂ g (letter u v) (letter p q)

turned : (g : Two) → Turned g (same g Cx)
turned Cx = tested (bool ∷ bool ∷ bool ∷ bool ∷ bool ∷ []) bool _ _ tt
turned Cz = tested (bool ∷ bool ∷ bool ∷ bool ∷ bool ∷ []) bool _ _ tt

module _ {w w1 w2 w3 : List ℕ} (a b y : ℕ) (al : a < most_qubits) (bl : b < most_qubits) (d : a ≢ b) where
  cx_gate : ((s : ℕ) → bit (s % 64) y ≡ true) → Changed (8 * a + 4) (λ s. bit_at w (8 * a + 4) s ⊕ bit_at w (8 * b + 4) s) w w1
      → Changed (8 * b) (λ s. bit_at w1 (8 * b) s ⊕ bit_at w1 (8 * a) s) w1 w2
      → Changed sign_words (λ s. bit_at w2 sign_words s ⊕ two_turns w (8 * a) (8 * a + 4) (8 * b + 4) (8 * b) y s) w2 w3 → Gated (two Cx a b) w w3
  cx_gate ey c1 c2 c3 =
      two_gate Cx a b w w3 c3.words
      (λ s l. c3.bits s l
      ∙ ap₂ (λ (m c : Bool). m ⊕ ((bit_at w (8 * a) s && bit_at w (8 * b + 4) s) && ((bit_at w (8 * a + 4) s ⊕ bit_at w (8 * b) s) ⊕ c)))
      (elsewhere c2 sign_words s l (λ h. omega arith) (λ h. omega arith) ∙ elsewhere c1 sign_words s l (λ h. omega arith) (λ h. omega arith)) (ey s)
      ∙ turned Cx (bit_at w sign_words s) (bit_at w (8 * a) s) (bit_at w (8 * a + 4) s) (bit_at w (8 * b) s) (bit_at w (8 * b + 4) s))
      (λ s l. ap₂ letter (x_kept a s l al (λ e. d e))
      (last (8 * a + 4) s l (omega arith) ∙ elsewhere c2 (8 * a + 4) s l (λ h. omega arith) (λ h. omega arith) ∙ c1.bits s l)
      ∙ simp (x_letter, z_letter))
      (λ s l. ap₂ letter
      (last (8 * b) s l (omega arith) ∙ c2.bits s l ∙ ap₂ ◌⊕◌ (x_first b s l bl) (x_first a s l al))
      (z_kept b s l bl (λ e. d (sym e)))
      ∙ simp (x_letter, z_letter))
      (λ s j l jl da db. ap₂ letter (x_kept j s l jl db) (z_kept j s l jl da))
    where
      last : (p s : ℕ) → s < row_count → p + 4 ≤ sign_words → bit_at w3 p s ≡ bit_at w2 p s
      last p s l h = beside_signs c3 p s l h

      x_first : (j s : ℕ) → s < row_count → j < most_qubits → bit_at w1 (8 * j) s ≡ bit_at w (8 * j) s
      x_first j s l jl = elsewhere c1 (8 * j) s l (λ h. omega arith) (λ h. omega arith)

      x_kept : (j s : ℕ) → s < row_count → j < most_qubits → j ≢ b → bit_at w3 (8 * j) s ≡ bit_at w (8 * j) s
      x_kept j s l jl e = last (8 * j) s l (omega arith) ∙ elsewhere c2 (8 * j) s l (λ h. omega arith) (λ h. omega arith) ∙ x_first j s l jl

      z_kept : (j s : ℕ) → s < row_count → j < most_qubits → j ≢ a → bit_at w3 (8 * j + 4) s ≡ bit_at w (8 * j + 4) s
      z_kept j s l jl e =
          last (8 * j + 4) s l (omega arith) ∙ elsewhere c2 (8 * j + 4) s l (λ h. omega arith) (λ h. omega arith)
          ∙ elsewhere c1 (8 * j + 4) s l (λ h. omega arith) (λ h. omega arith)

  cz_gate : ((s : ℕ) → bit (s % 64) y ≡ false) → Changed (8 * a + 4) (λ s. bit_at w (8 * a + 4) s ⊕ bit_at w (8 * b) s) w w1
      → Changed (8 * b + 4) (λ s. bit_at w1 (8 * b + 4) s ⊕ bit_at w1 (8 * a) s) w1 w2
      → Changed sign_words (λ s. bit_at w2 sign_words s ⊕ two_turns w (8 * a) (8 * a + 4) (8 * b) (8 * b + 4) y s) w2 w3 → Gated (two Cz a b) w w3
  cz_gate ey c1 c2 c3 =
      two_gate Cz a b w w3 c3.words
      (λ s l. c3.bits s l
      ∙ ap₂ (λ (m c : Bool). m ⊕ ((bit_at w (8 * a) s && bit_at w (8 * b) s) && ((bit_at w (8 * a + 4) s ⊕ bit_at w (8 * b + 4) s) ⊕ c)))
      (elsewhere c2 sign_words s l (λ h. omega arith) (λ h. omega arith) ∙ elsewhere c1 sign_words s l (λ h. omega arith) (λ h. omega arith)) (ey s)
      ∙ turned Cz (bit_at w sign_words s) (bit_at w (8 * a) s) (bit_at w (8 * a + 4) s) (bit_at w (8 * b) s) (bit_at w (8 * b + 4) s))
      (λ s l. ap₂ letter (x_kept a s l al)
      (last (8 * a + 4) s l (omega arith) ∙ elsewhere c2 (8 * a + 4) s l (λ h. omega arith) (λ h. omega arith) ∙ c1.bits s l)
      ∙ simp (x_letter, z_letter))
      (λ s l. ap₂ letter (x_kept b s l bl)
      (last (8 * b + 4) s l (omega arith) ∙ c2.bits s l ∙ ap₂ ◌⊕◌ (z_first b s l bl (λ e. d (sym e))) (x_first a s l al))
      ∙ simp (x_letter, z_letter))
      (λ s j l jl da db. ap₂ letter (x_kept j s l jl) (last (8 * j + 4) s l (omega arith) ∙ elsewhere c2 (8 * j + 4) s l (λ h. omega arith) (λ h. omega arith) ∙ z_first j s l jl da))
    where
      last : (p s : ℕ) → s < row_count → p + 4 ≤ sign_words → bit_at w3 p s ≡ bit_at w2 p s
      last p s l h = beside_signs c3 p s l h

      x_first : (j s : ℕ) → s < row_count → j < most_qubits → bit_at w1 (8 * j) s ≡ bit_at w (8 * j) s
      x_first j s l jl = elsewhere c1 (8 * j) s l (λ h. omega arith) (λ h. omega arith)

      x_kept : (j s : ℕ) → s < row_count → j < most_qubits → bit_at w3 (8 * j) s ≡ bit_at w (8 * j) s
      x_kept j s l jl = last (8 * j) s l (omega arith) ∙ elsewhere c2 (8 * j) s l (λ h. omega arith) (λ h. omega arith) ∙ x_first j s l jl

      z_first : (j s : ℕ) → s < row_count → j < most_qubits → j ≢ a → bit_at w1 (8 * j + 4) s ≡ bit_at w (8 * j + 4) s
      z_first j s l jl e = elsewhere c1 (8 * j + 4) s l (λ h. omega arith) (λ h. omega arith)

  -- either of them, by the words that are picked
  pub two_picked : (g : Two) (c : Bool) → c ≡ same g Cx → (p q : ℕ) → p ≡ cond c (8 * b + 4) (8 * b) → q ≡ cond c (8 * b) (8 * b + 4) → ((s : ℕ) → bit (s % 64) y ≡ c)
      → Changed (8 * a + 4) (λ s. bit_at w (8 * a + 4) s ⊕ bit_at w p s) w w1
      → Changed q (λ s. bit_at w1 q s ⊕ bit_at w1 (8 * a) s) w1 w2
      → Changed sign_words (λ s. bit_at w2 sign_words s ⊕ two_turns w (8 * a) (8 * a + 4) p q y s) w2 w3 → Gated (two g a b) w w3
  two_picked Cx c e p q ep eq ey c1 c2 c3 =
      let f = ep ∙ ap (λ (u : Bool). cond u (8 * b + 4) (8 * b)) e in
      let h = eq ∙ ap (λ (u : Bool). cond u (8 * b) (8 * b + 4)) e in
      cx_gate (λ s. ey s ∙ e) (rw f at c1) (rw h at c2) (rw (f, h) at c3)
  two_picked Cz c e p q ep eq ey c1 c2 c3 =
      let f = ep ∙ ap (λ (u : Bool). cond u (8 * b + 4) (8 * b)) e in
      let h = eq ∙ ap (λ (u : Bool). cond u (8 * b) (8 * b + 4)) e in
      cz_gate (λ s. ey s ∙ e) (rw f at c1) (rw h at c2) (rw (f, h) at c3)
