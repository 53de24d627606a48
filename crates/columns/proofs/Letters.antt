-- The two steps of a gate on one qubit, whose letter picks the words. Assumes nothing.
use mathlib.Core.Path.{◌≡◌, ap, ap₂, ◌∙◌}
use mathlib.Core.Bool.{Bool, true, false, ◌&&◌, ◌||◌, cond}
use mathlib.Core.List.{List, [], ◌∷◌}
use mathlib.Core.Logic.{◌≢◌}
use Prim.Native.Nat.{ℕ, ◌+◌, ◌-◌, ◌*◌, ◌^◌, ◌%◌, ◌/◌, ◌≤◌, ◌<◌}
use native.Mathlib.Nat.{mod-lt, zero-lt-suc}
use native.Mathlib.Decide.{dec_lt}
use native.Mathlib.Omega.{arith}
use Rattle.std.proofs.lemmas.Bool.Decides.{nat_tests}
use lib.ListN.{get_or}
use Rattle.limits.specs.Limits.{most_qubits}
use Rattle.words.specs.Bit.{bit}
use Rattle.words.proofs.BitLaws.{all_or_none}
use Rattle.pauli.specs.Letters.{letter, ◌⊕◌}
use Rattle.pauli.proofs.Cases.{tested, bit as bool, ltr}
use Rattle.clifford.specs.declared.One.{One}
use Rattle.clifford.specs.declared.One.TheVariants.{H, S, PauliX, PauliY, PauliZ}
use Rattle.clifford.specs.declared.Gate.TheVariants.{One as one}
use Rattle.clifford.specs.Gates.{turns₁, new₁, new}
use Rattle.clifford.specs.contracts.One.{the_type}
use denote.Enum.Bare.{sameb}
use Rattle.packing.specs.View.{row_count, sign_words, bit_at, letter_at}
use Rattle.packing.specs.Parts.Changes.{Changed}
use Rattle.columns.specs.Parts.Gated.{Gated}
use Rattle.packing.proofs.Groups.{beside_signs}
use Rattle.columns.proofs.Gates.{gated_by}
use Rattle.columns.specs.Parts.Picked.{Shuffled, one_turns}

picked : (w : List ℕ) (s r : ℕ) (on : Bool) (b c : ℕ) → r ≡ cond on b c → bit_at w r s ≡ cond on (bit_at w b s) (bit_at w c s)
picked w s r true b c e = ap (λ (o : ℕ). bit_at w o s) e
picked w s r false b c e = ap (λ (o : ℕ). bit_at w o s) e

-- whether two gates are the same, as the code's `==` tests it
abbrev pub same : One → One → Bool
same = sameb the_type

-- what the picked words make of the bits u and v of a letter
abbrev Turned : One → Bool → Bool → Bool → Bool → Type 0
Turned g h s p y = (u v : Bool) → (cond p v u && cond (h || s || p) v u) ⊕ (v && y) ≡ turns₁ g (letter u v)

abbrev Renewed : One → Bool → Bool → Type 0
Renewed g h s = (u v : Bool) → letter (cond h v u) (cond h u v ⊕ (u && s)) ≡ new₁ g (letter u v)

turned : (g : One) → Turned g (same g H) (same g S) (same g PauliX) (same g PauliY)
turned H = tested (bool ∷ bool ∷ []) bool _ _ tt
turned S = tested (bool ∷ bool ∷ []) bool _ _ tt
turned PauliX = tested (bool ∷ bool ∷ []) bool _ _ tt
turned PauliY = tested (bool ∷ bool ∷ []) bool _ _ tt
turned PauliZ = tested (bool ∷ bool ∷ []) bool _ _ tt

renewed : (g : One) → Renewed g (same g H) (same g S)
renewed H = tested (bool ∷ bool ∷ []) ltr _ _ tt
renewed S = tested (bool ∷ bool ∷ []) ltr _ _ tt
renewed PauliX = tested (bool ∷ bool ∷ []) ltr _ _ tt
renewed PauliY = tested (bool ∷ bool ∷ []) ltr _ _ tt
renewed PauliZ = tested (bool ∷ bool ∷ []) ltr _ _ tt

module _ {w w1 w2 : List ℕ} (g : One) (a : ℕ) (al : a < most_qubits) (is_h is_s is_x is_y : Bool)
    (eh : is_h ≡ same g H) (es : is_s ≡ same g S) (ex : is_x ≡ same g PauliX) (ey : is_y ≡ same g PauliY) (pa pb y fx fz added : ℕ)
    (epa : pa ≡ cond is_x (8 * a + 4) (8 * a)) (epb : pb ≡ cond (is_h || is_s || is_x) (8 * a + 4) (8 * a)) (eturns : y ≡ cond is_y (2 ^ 64 - 1) 0)
    (efx : fx ≡ cond is_h (8 * a + 4) (8 * a)) (efz : fz ≡ cond is_h (8 * a) (8 * a + 4)) (ead : added ≡ cond is_s (2 ^ 64 - 1) 0)
    (t : Changed sign_words (λ s. bit_at w sign_words s ⊕ one_turns w pa pb (8 * a + 4) y s) w w1) (h : Shuffled (8 * a) fx fz added w1 w2) where
  -- the words that stay
  away : (p s : ℕ) → s < row_count → (p < 8 * a → p + 4 ≤ 8 * a) → (8 * a ≤ p → 8 * a + 8 ≤ p) → bit_at w2 p s ≡ bit_at w1 p s
  away p s l below above = ap (bit (s % 64)) (go (dec_lt p (8 * a)))
    where
      go : Dec (p < 8 * a) → get_or w2 (p + s / 64) 0 ≡ get_or w1 (p + s / 64) 0
      go (yes b) = let e = below b in h.before (p + s / 64) (omega arith)
      go (no b) = let e = above (omega arith) in h.behind (p + s / 64) (omega arith)

  here : (s : ℕ) → s < row_count → letter_at w2 s a ≡ new₁ g (letter_at w s a)
  here s l =
      ap₂ letter
      (h.xs s l ∙ picked w1 s fx is_h (8 * a + 4) (8 * a) efx ∙ ap₂ (cond is_h) (beside_signs t (8 * a + 4) s l (omega arith)) (beside_signs t (8 * a) s l (omega arith)))
      (h.zs s l
      ∙ ap₂ (λ (p q : Bool). p ⊕ q)
      (picked w1 s fz is_h (8 * a) (8 * a + 4) efz ∙ ap₂ (cond is_h) (beside_signs t (8 * a) s l (omega arith)) (beside_signs t (8 * a + 4) s l (omega arith)))
      (ap₂ ◌&&◌ (beside_signs t (8 * a) s l (omega arith)) (all_or_none added is_s (s % 64) (mod-lt s (zero-lt-suc 63)) ead)))
      ∙ rw (eh, es) (renewed g (bit_at w (8 * a) s) (bit_at w (8 * a + 4) s))

  letters : (s j : ℕ) → s < row_count → j < most_qubits → letter_at w2 s j ≡ new (one g a) (letter_at w s) j
  letters s j l jl = grind (arith, nat_tests, here s l, other)
    where
      other : j ≢ a → letter_at w2 s j ≡ letter_at w s j
      other d =
          ap₂ letter (away (8 * j) s l (λ b. omega arith) (λ b. omega arith) ∙ beside_signs t (8 * j) s l (omega arith))
          (away (8 * j + 4) s l (λ b. omega arith) (λ b. omega arith) ∙ beside_signs t (8 * j + 4) s l (omega arith))

  signs : (s : ℕ) → s < row_count → bit_at w2 sign_words s ≡ bit_at w sign_words s ⊕ turns₁ g (letter_at w s a)
  signs s l =
      away sign_words s l (λ b. omega arith) (λ b. omega arith) ∙ t.bits s l
      ∙ ap (λ (b : Bool). bit_at w sign_words s ⊕ b)
      (ap₂ (λ (p q : Bool). p ⊕ q)
      (ap₂ ◌&&◌ (picked w s pa is_x (8 * a + 4) (8 * a) epa) (picked w s pb (is_h || is_s || is_x) (8 * a + 4) (8 * a) epb))
      (ap (λ (b : Bool). bit_at w (8 * a + 4) s && b) (all_or_none y is_y (s % 64) (mod-lt s (zero-lt-suc 63)) eturns))
      ∙ rw (eh, es, ex, ey) (turned g (bit_at w (8 * a) s) (bit_at w (8 * a + 4) s)))

  pub one_gate : Gated (one g a) w w2
  one_gate = gated_by (one g a) w w2 h.words signs letters
