-- Four words that are loaded or stored side by side, and the bits of all their rows. Assumes nothing.
use mathlib.Core.Path.{◌≡◌, refl, sym, ap, ap₂, ◌∙◌}
use mathlib.Core.Bool.{Bool, cond}
use mathlib.Core.List.{List}
use mathlib.Core.Logic.{◌≢◌}
use Prim.Native.Nat.{ℕ, zero, suc, ◌+◌, ◌*◌, ◌/◌, ◌%◌, ◌≤◌, ◌<◌}
use native.Mathlib.Nat.{add-zero}
use native.Mathlib.Decide.{dec_lt}
use native.Mathlib.Omega.{arith}
use borrow.Author.Count.{below_none, below_more}
use lib.Dec.{eqb}
use Rattle.std.proofs.lemmas.Bool.Decides.{nat_tests}
use lib.ListN.{length, get_or, set, length-set}
use lib.Seq.{get_or-set_same, get_or-set_other}
use Rattle.words.specs.Bit.{bit}
use Rattle.pauli.specs.Letters.{letter}
use Rattle.limits.specs.Limits.{most_qubits}
use Rattle.packing.specs.View.{row_count, sign_words, word_count, Words, bit_in, group, bit_at, letter_at}
use Rattle.packing.specs.Parts.Changes.{four, Replaced, Changed}

-- the number of a row's word
pub word_of : (s : ℕ) → s < row_count → s / 64 < 4
word_of s l = omega arith

-- what holds of each of four
pub each_of : (P : ℕ → Type 0) → P 0 → P 1 → P 2 → P 3 → (g : ℕ) → g < 4 → P g
each_of P a b c d = below_more P 3 (below_more P 2 (below_more P 1 (below_more P 0 (below_none P) a) b) c) d

-- four words that are those of f
each : (f : ℕ → ℕ) (g : ℕ) → g < 4 → four (f 0) (f 1) (f 2) (f 3) g ≡ f g
each f = each_of (λ g. four (f 0) (f 1) (f 2) (f 3) g ≡ f g) refl refl refl refl

pub bit-each : (f : ℕ → ℕ) (s : ℕ) → s < row_count → bit_in (four (f 0) (f 1) (f 2) (f 3)) s ≡ bit_in f s
bit-each f s l = ap (bit (s % 64)) (each f (s / 64) (word_of s l))

-- the four words from o on, as the code loads them
abbrev pub loads : List ℕ → ℕ → ℕ → ℕ
loads w o = four (get_or w o 0) (get_or w (o + 1) 0) (get_or w (o + 2) 0) (get_or w (o + 3) 0)

loaded : (w : List ℕ) (o g : ℕ) → g < 4 → loads w o g ≡ group w o g
loaded w o = each_of (λ g. loads w o g ≡ group w o g) (ap (λ (k : ℕ). get_or w k 0) (sym (add-zero o))) refl refl refl

pub bit-loads : (w : List ℕ) (o s : ℕ) → s < row_count → bit_in (loads w o) s ≡ bit_at w o s
bit-loads w o s l = ap (bit (s % 64)) (loaded w o (s / 64) (word_of s l))

-- and as it stores them
abbrev pub put : List ℕ → ℕ → ℕ → ℕ → ℕ → ℕ → List ℕ
put w o a b c d = set (set (set (set w o a) (o + 1) b) (o + 2) c) (o + 3) d

module _ (w : List ℕ) {count : ℕ} (lw : length w ≡ count) (o : ℕ) (lo : o + 4 ≤ count) (f : ℕ → ℕ) where
  abbrev w1 : List ℕ
  w1 = set w o (f 0)

  abbrev w2 : List ℕ
  w2 = set w1 (o + 1) (f 1)

  abbrev w3 : List ℕ
  w3 = set w2 (o + 2) (f 2)

  abbrev pub stored : List ℕ
  stored = put w o (f 0) (f 1) (f 2) (f 3)

  pub stored_other : (k : ℕ) → k ≢ o → k ≢ o + 1 → k ≢ o + 2 → k ≢ o + 3 → get_or stored k 0 ≡ get_or w k 0
  stored_other k e0 e1 e2 e3 =
      get_or-set_other w3 (o + 3) k (f 3) 0 e3 ∙ get_or-set_other w2 (o + 2) k (f 2) 0 e2 ∙ get_or-set_other w1 (o + 1) k (f 1) 0 e1 ∙ get_or-set_other w o k (f 0) 0 e0

  stored_at : (g : ℕ) → g < 4 → group stored o g ≡ f g
  stored_at zero h =
      rw (add-zero o)
      (get_or-set_other w3 (o + 3) o (f 3) 0 (omega arith) ∙ get_or-set_other w2 (o + 2) o (f 2) 0 (omega arith)
      ∙ get_or-set_other w1 (o + 1) o (f 1) 0 (omega arith) ∙ get_or-set_same w o (f 0) 0 (omega arith))
  stored_at (suc zero) h =
      get_or-set_other w3 (o + 3) (o + 1) (f 3) 0 (omega arith) ∙ get_or-set_other w2 (o + 2) (o + 1) (f 2) 0 (omega arith)
      ∙ get_or-set_same w1 (o + 1) (f 1) 0 (simp length-set (omega arith))
  stored_at (suc (suc zero)) h = get_or-set_other w3 (o + 3) (o + 2) (f 3) 0 (omega arith) ∙ get_or-set_same w2 (o + 2) (f 2) 0 (simp length-set (omega arith))
  stored_at (suc (suc (suc zero))) h = get_or-set_same w3 (o + 3) (f 3) 0 (simp length-set (omega arith))
  stored_at (suc (suc (suc (suc g)))) h = absurd (omega arith)

  -- four words from o on are replaced, all else stays
  pub changed : (b : ℕ → Bool) → ((s : ℕ) → s < row_count → bit_in f s ≡ b s) → Replaced count o b w stored
  changed b e = record {
    words = simp length-set lw;
    bits = λ s l. ap (bit (s % 64)) (stored_at (s / 64) (word_of s l)) ∙ e s l;
    before = λ k l. stored_other k (omega arith) (omega arith) (omega arith) (omega arith);
    behind = λ k l. stored_other k (omega arith) (omega arith) (omega arith) (omega arith);
  }

-- a group of words that has none of those that were replaced
pub elsewhere : {count o : ℕ} {f : ℕ → Bool} {w w' : List ℕ} → Replaced count o f w w' → (p s : ℕ) → s < row_count → (p < o → p + 4 ≤ o) → (o ≤ p → o + 4 ≤ p) → bit_at w' p s ≡ bit_at w p s
elsewhere {count} {o} {f} {w} {w'} c p s l below above = ap (bit (s % 64)) (go (dec_lt p o))
  where
    go : Dec (p < o) → group w' p (s / 64) ≡ group w p (s / 64)
    go (yes h) = c.before (p + s / 64) (omega (arith, below h, word_of s l))
    go (no h) = c.behind (p + s / 64) (omega (arith, above (omega arith)))

-- the letters, where the signs are changed
pub beside_signs : {f : ℕ → Bool} {w w' : List ℕ} → Changed sign_words f w w' → (p s : ℕ) → s < row_count → p + 4 ≤ sign_words → bit_at w' p s ≡ bit_at w p s
beside_signs c p s l h = elsewhere c p s l (λ b. h) (λ b. absurd (omega arith))

-- one word of a group is replaced
module _ (w : List ℕ) (lw : Words w) (o : ℕ) (lo : o + 4 ≤ word_count) (g : ℕ) (lg : g < 4) (v : ℕ) where
  pub changed_one : Changed o (λ s. cond (eqb (s / 64) g) (bit (s % 64) v) (bit_at w o s)) w (set w (o + g) v)
  changed_one = record {
    words = simp length-set lw;
    bits = λ s l. grind (arith, nat_tests, get_or-set_same w (o + g) v 0, get_or-set_other w (o + g) (o + s / 64) v 0);
    before = λ k l. get_or-set_other w (o + g) k v 0 (omega arith);
    behind = λ k l. get_or-set_other w (o + g) k v 0 (omega arith);
  }

-- a letter, of the words of its qubit that are replaced; and the other letters
module _ (j : ℕ) (jl : j < most_qubits) {f g : ℕ → Bool} {w m w' : List ℕ} (c : Changed (8 * j) f w m) (d : Changed (8 * j + 4) g m w') where
  pub new_letter : (s : ℕ) → s < row_count → letter_at w' s j ≡ letter (f s) (g s)
  new_letter s l = ap₂ letter (elsewhere d (8 * j) s l (λ b. omega arith) (λ b. omega arith) ∙ c.bits s l) (d.bits s l)

  pub old_letter : (s k : ℕ) → s < row_count → k ≢ j → letter_at w' s k ≡ letter_at w s k
  old_letter s k l e =
      ap₂ letter (elsewhere d (8 * k) s l (λ b. omega arith) (λ b. omega arith) ∙ elsewhere c (8 * k) s l (λ b. omega arith) (λ b. omega arith))
      (elsewhere d (8 * k + 4) s l (λ b. omega arith) (λ b. omega arith) ∙ elsewhere c (8 * k + 4) s l (λ b. omega arith) (λ b. omega arith))
