-- The pass over the columns, of rows in two words: what the words and the number hold after j columns. Assumes nothing.
use mathlib.Core.Path.{◌≡◌, refl, sym, ap, ap₂, ◌∙◌}
use mathlib.Core.Bool.{Bool, true, false, ◌&&◌, ◌||◌, true≢false}
use mathlib.Core.List.{List, [], ◌∷◌}
use Prim.Native.Nat.{ℕ, suc, ◌+◌, ◌-◌, ◌*◌, ◌%◌, ◌^◌, ◌≤◌, ◌<◌}
use native.Mathlib.Nat.{lt_of_le_of_lt, mul-add}
use native.Mathlib.Omega.{arith}
use lib.Bits.{bit_and, bit_or, bit_xor, and_le_l, and_le_r, xor_lt}
use lib.Count.{ones}
use lib.ListN.{get_or}
use Rattle.limits.specs.Limits.{most_qubits}
use Rattle.words.specs.Bit.{bit}
use Rattle.words.proofs.BitLaws.{bit-xor, bit-or, bit-zero}
use Rattle.pauli.specs.Letters.{Power, ◌⊕◌, ◌⊞◌, sign}
use Rattle.pauli.specs.Rows.{odd_number}
use Rattle.pauli.proofs.Cases as cases
use Rattle.pauli.proofs.Sums.{sum-cong, sum-plus}
use Rattle.pauli.proofs.LetterLaws.{xor_adds, power_adds}
use Rattle.packing.specs.View.{sign_words, bit_in}
use Rattle.measure_fixed.specs.Parts.Column.{count, power_of, three, pair, x_bit, z_bit, s_bit, all_powers}
use Rattle.measure_fixed.proofs.Counts.{power_add, three_count, threes, twos_odd}
use Rattle.measure_fixed.proofs.Pass.{Passed, passed_none, passed_more, passed_over}
use Rattle.measure_fixed.proofs.InWords.{sum-words, odd_bits, Has, has_own, has_and, has_xor, has_rows, has_same, each_word, odd_both, has_parities}

odd_xor : (a b : ℕ) → odd_bits (bit_xor a b) ≡ odd_bits a ⊕ odd_bits b
odd_xor a b = sum-cong xor_adds (λ k. bit k (bit_xor a b)) (λ k. bit k a ⊕ bit k b) 64 (λ k l. bit-xor k a b) ∙ sum-plus xor_adds (λ k. bit k a) (λ k. bit k b) 64

module _ (w : List ℕ) (sel : ℕ → ℕ) where
  -- word g of the selected rows, of the group of words from o on
  abbrev pub chosen : ℕ → ℕ → ℕ
  chosen o g = bit_and (sel g) (get_or w (o + (2 + g)) 0)

  has_x : (j : ℕ) → Has (x_bit w sel j) (chosen (8 * j))
  has_x j = has_and (has_own sel) (has_rows w (8 * j))

  has_z : (j : ℕ) → Has (z_bit w sel j) (chosen (8 * j + 4))
  has_z j = has_and (has_own sel) (has_rows w (8 * j + 4))

  has_s : Has (s_bit w sel) (chosen sign_words)
  has_s = has_and (has_own sel) (has_rows w sign_words)

  -- what the words and the number hold after j columns
  pub record Passing (twos : ℕ) (h : ℕ → ℕ) (columns j : ℕ) : Type 0 where
    pub sums : Passed (x_bit w sel) (z_bit w sel) (s_bit w sel) most_qubits (bit_in h) (odd_bits twos) (power_of (3 * columns)) j
    pub few : columns ≤ j
    pub twos_word : twos < 2 ^ 64
    pub words : (h 0 < 2 ^ 64) × (h 1 < 2 ^ 64)

-- the same with other names
pub passing_same : {w : List ℕ} {sel : ℕ → ℕ} {t a b c t' a' b' c' j : ℕ} → Passing w sel t (pair a b) c j → t' ≡ t → a' ≡ a → b' ≡ b → c' ≡ c → Passing w sel t' (pair a' b') c' j
passing_same p et ea eb ec = rw (et, ea, eb, ec) p

no_bit : (r : ℕ) → r < most_qubits → bit_in (pair 0 0) r ≡ false
no_bit r l = each_word (λ g. bit (r % 64) (pair 0 0 g) ≡ false) (bit-zero (r % 64)) (bit-zero (r % 64)) r l

-- a word or another that is not 0
no_or : (a b k : ℕ) → bit_or a b ≡ 0 → (bit k a ≡ false) × (bit k b ≡ false)
no_or a b k e = go (bit k a) (bit k b) (sym (bit-or k a b) ∙ ap (bit k) e ∙ bit-zero k)
  where
    go : (u v : Bool) → (u || v) ≡ false → (u ≡ false) × (v ≡ false)
    go false false f = (refl, refl)
    go false true f = (refl, f)
    go true v f = (f, absurd (true≢false f))

regroup : (t a0 b0 a1 b1 : Bool) → t ⊕ (((a0 ⊕ b0) ⊕ a1) ⊕ b1) ≡ t ⊕ ((a0 ⊕ a1) ⊕ (b0 ⊕ b1))
regroup = cases.tested (cases.bit ∷ cases.bit ∷ cases.bit ∷ cases.bit ∷ cases.bit ∷ []) cases.bit _ _ tt

module _ (w : List ℕ) (sel : ℕ → ℕ) (sl : (sel 0 < 2 ^ 64) × (sel 1 < 2 ^ 64)) where
  pub passing_none : Passing w sel (bit_xor (chosen w sel sign_words 0) (chosen w sel sign_words 1)) (pair 0 0) 0 0
  unfolding power_of
  passing_none = record {
    sums = passed_none _ _ _ most_qubits (bit_in (pair 0 0)) _ no_bit (odd_xor (chosen w sel sign_words 0) (chosen w sel sign_words 1) ∙ sym (odd_both (has_s w sel)));
    few = omega arith;
    twos_word = xor_lt 64 _ _ (lt_of_le_of_lt (and_le_l (sel 0) _) sl.0) (lt_of_le_of_lt (and_le_l (sel 1) _) sl.1);
    words = (omega arith, omega arith);
  }

  module _ (twos : ℕ) (h : ℕ → ℕ) (columns j : ℕ) (a : Passing w sel twos h columns j) where
    abbrev x : ℕ → ℕ
    x = chosen w sel (8 * j)

    abbrev z : ℕ → ℕ
    z = chosen w sel (8 * j + 4)

    abbrev y : ℕ → ℕ
    y g = bit_and (x g) (z g)

    -- a word of the new twos, and of the new h
    x_below : (x 0 < 2 ^ 64) × (x 1 < 2 ^ 64)
    x_below = (lt_of_le_of_lt (and_le_l (sel 0) _) sl.0, lt_of_le_of_lt (and_le_l (sel 1) _) sl.1)

    new_below : (g : ℕ) → h g < 2 ^ 64 → x g < 2 ^ 64 → bit_xor (h g) (y g) < 2 ^ 64
    new_below g hl xl = xor_lt 64 (h g) (y g) hl (lt_of_le_of_lt (and_le_l (x g) _) xl)

    added_below : (p : ℕ → ℕ) (g : ℕ) → x g < 2 ^ 64 → (bit_and (h g) (y g) < 2 ^ 64) × (bit_and (p g) (x g) < 2 ^ 64)
    added_below p g xl = (lt_of_le_of_lt (and_le_r (h g) (y g)) (lt_of_le_of_lt (and_le_l (x g) _) xl), lt_of_le_of_lt (and_le_r (p g) (x g)) xl)

    module _ (q : ℕ → ℕ) (f b : ℕ) (one : b ≤ 1) (e0 : (k : ℕ) → k < 64 → bit k (q 0) ≡ odd_number (λ i. bit i (z 0)) (suc k))
        (e1 : (k : ℕ) → k < 64 → bit k (q 1) ≡ odd_number (λ i. bit i (z 1)) (suc k)) (ef : (k : ℕ) → k < 64 → bit k f ≡ bit 63 (q 0)) where
      abbrev p : ℕ → ℕ
      p = pair (q 0) (bit_xor (q 1) f)

      abbrev u : ℕ → ℕ
      u g = bit_and (h g) (y g)

      abbrev v : ℕ → ℕ
      v g = bit_and (p g) (x g)

      abbrev h' : ℕ → ℕ
      h' = pair (bit_xor (h 0) (y 0)) (bit_xor (h 1) (y 1))

      pub passing_more : b ≡ count (odd_number (λ i. bit i (bit_xor (x 0) (x 1))) 64 && bit 63 (bit_xor (q 1) f))
          → Passing w sel (bit_xor twos (bit_xor (bit_xor (bit_xor (u 0) (v 0)) (u 1)) (v 1))) h' (columns + b) (j + 1)
      passing_more eb =
          let hx = has_x w sel j in
          let hh = has_own h in
          let hy = has_and hx (has_z w sel j) in
          let hp = has_parities (has_z w sel j) q e0 e1 f ef in
          let ub = added_below p 0 x_below.0 in
          let vb = added_below p 1 x_below.1 in
          record {
            sums = passed_more (x_bit w sel) (z_bit w sel) (s_bit w sel) most_qubits (bit_in h) (bit_in h') (odd_bits twos) _ (power_of (3 * columns)) _ j a.sums
                (λ r l. sym ((has_same h' (has_xor hh hy) refl refl).row r l))
                (odd_xor twos (bit_xor (bit_xor (bit_xor (u 0) (v 0)) (u 1)) (v 1))
                ∙ ap (λ (t : Bool). odd_bits twos ⊕ t) (odd_xor (bit_xor (bit_xor (u 0) (v 0)) (u 1)) (v 1) ∙ ap (λ (t : Bool). t ⊕ odd_bits (v 1)) (odd_xor (bit_xor (u 0) (v 0)) (u 1) ∙ ap (λ (t : Bool). t ⊕ odd_bits (u 1)) (odd_xor (u 0) (v 0))))
                ∙ regroup (odd_bits twos) (odd_bits (u 0)) (odd_bits (v 0)) (odd_bits (u 1)) (odd_bits (v 1))
                ∙ ap₂ (λ (s t : Bool). odd_bits twos ⊕ (s ⊕ t)) (sym (odd_both (has_and hh hy))) (sym (odd_both (has_and hp hx))))
                (ap power_of (mul-add 3 columns b) ∙ power_add (3 * columns) (3 * b)
                ∙ ap (λ (t : Power). power_of (3 * columns) ⊞ t)
                (ap (λ (k : ℕ). power_of (3 * k)) eb ∙ three_count (odd_bits (bit_xor (x 0) (x 1)) && bit 63 (p 1))
                ∙ ap₂ (λ (s t : Bool). three (s && t)) (odd_xor (x 0) (x 1) ∙ sym (odd_both hx)) (sym (hp.row (most_qubits - 1) (omega arith)))));
            few = omega (arith, a.few);
            twos_word = xor_lt 64 twos _ a.twos_word (xor_lt 64 _ (v 1) (xor_lt 64 _ (u 1) (xor_lt 64 (u 0) (v 0) ub.0 ub.1) vb.0) vb.1);
            words = (new_below 0 a.words.0 x_below.0, new_below 1 a.words.1 x_below.1);
          }

    pub passing_over : bit_or (x 0) (x 1) ≡ 0 → Passing w sel twos h columns (j + 1)
    passing_over e = record {
      sums = passed_over (x_bit w sel) (z_bit w sel) (s_bit w sel) most_qubits _ _ _ j a.sums
          (λ r l. (has_x w sel j).row r l ∙ each_word (λ g. bit (r % 64) (x g) ≡ false) (no_or (x 0) (x 1) (r % 64) e).0 (no_or (x 0) (x 1) (r % 64) e).1 r l);
      few = omega (arith, a.few);
      twos_word = a.twos_word;
      words = a.words;
    }

    pub passing_all : power_of (3 * columns + 3 * (ones (h 0) + ones (h 1)) + 2 * ones twos) ≡ all_powers most_qubits j w sel
    unfolding Passed all_powers
    passing_all =
        power_add (3 * columns + 3 * (ones (h 0) + ones (h 1))) (2 * ones twos)
        ∙ ap₂ ◌⊞◌ (power_add (3 * columns) (3 * (ones (h 0) + ones (h 1)))) (twos_odd 64 twos a.twos_word)
        ∙ turn (power_of (3 * columns)) (power_of (3 * (ones (h 0) + ones (h 1)))) (sign (odd_bits twos))
        ∙ ap (λ (t : Power). t ⊞ (sign (odd_bits twos) ⊞ power_of (3 * columns)))
        (ap power_of (mul-add 3 (ones (h 0)) (ones (h 1))) ∙ power_add (3 * ones (h 0)) (3 * ones (h 1)) ∙ ap₂ ◌⊞◌ (threes 64 (h 0) a.words.0) (threes 64 (h 1) a.words.1)
        ∙ sym (sum-words power_adds three h 2))
        ∙ a.sums
      where
        turn : (c h t : Power) → c ⊞ h ⊞ t ≡ h ⊞ (t ⊞ c)
        turn = cases.tested (cases.pow ∷ cases.pow ∷ cases.pow ∷ []) cases.pow _ _ tt
