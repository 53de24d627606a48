-- The rows that a fixed measurement multiplies, by the two words that select them. Assumes nothing.
use mathlib.Core.Path.{◌≡◌, refl, sym, ap, ap₂, ◌∙◌}
use mathlib.Core.Logic.{◌≢◌}
use mathlib.Core.Bool.{Bool, true, false, cond, ◌&&◌, true≢false}
use mathlib.Core.List.{List, [], ◌∷◌}
use Prim.Native.Nat.{ℕ, zero, suc, ◌-◌, ◌*◌, ◌/◌, ◌%◌, ◌≤◌, ◌<◌, ◌+◌}
use native.Mathlib.Nat.{add-zero}
use native.Mathlib.Decide.{dec_lt}
use native.Mathlib.Omega.{arith}
use lib.Dec.{eqb}
use Rattle.std.proofs.lemmas.Bool.Decides.{nat_tests}
use lib.ListN.{get_or}
use borrow.Author.Tests.{eq-eqb, ne_eqb, eqb-true, eqb-false}
use Rattle.limits.specs.Limits.{most_qubits}
use Rattle.words.specs.Bit.{bit}
use Rattle.words.proofs.BitLaws.{bit-zero}
use Rattle.pauli.specs.Letters.{Letter, I, letter}
use Rattle.pauli.specs.Rows.{Row, Phased, product, phased}
use Rattle.pauli.proofs.Cases as cases
use Rattle.pauli.proofs.LetterLaws.{x_letter}
use Rattle.clifford.specs.Measurement.{has_x, gathered, fixed_value}
use Rattle.packing.specs.View.{sign_words, bit_in, bit_at, row_at, rows_from, rows_of, Holds}
use Rattle.packing.proofs.Determined.{row_sign, row_letter}
use Rattle.packing.proofs.Views.{rows_in, rows_out, x_at}
use Rattle.measure_fixed.specs.Parts.Column.{pair, x_bit, z_bit, s_bit, all_powers, OnlyRow}
use Rattle.measure_fixed.proofs.Exchange.{exchanged}
use Rattle.measure_fixed.proofs.InWords.{Has, each_word}
use Rattle.measure_fixed.proofs.Single.{no_factor, one_factor}

shown : (p u v : Bool) → cond p (letter u v) I ≡ letter (p && u) (p && v)
shown = cases.tested (cases.bit ∷ cases.bit ∷ cases.bit ∷ []) cases.ltr _ _ tt

-- the number of a row, by its word and its bit
same_number : (g q k : ℕ) → q < 64 → k / 64 ≡ g → (c : Bool) → eqb (k % 64) q ≡ c → eqb k (64 * g + q) ≡ c
same_number g q k l h c d = grind (arith, nat_tests)

module _ (n a : ℕ) (w : List ℕ) (h : Holds n w) (nl : n ≤ most_qubits) (an : a < n) where
  abbrev sel : ℕ
  sel = get_or w (8 * a) 0

  abbrev tel : ℕ
  tel = get_or w (8 * a + 1) 0

  abbrev both : ℕ → ℕ
  both = pair sel tel

  x_of : (s : ℕ) → has_x a (row_at n w s) ≡ bit_at w (8 * a) s
  x_of s = x_at n w s a an ∙ x_letter _ _

  same : (r : ℕ) → r < most_qubits → bit_at w (8 * a) (0 + r) ≡ bit_in both r
  same r l =
      let e : 0 + r ≡ r = omega arith in
      ap (bit_at w (8 * a)) e ∙ each_word (λ g. bit (r % 64) (get_or w (8 * a + g) 0) ≡ bit (r % 64) (both g)) (ap (λ (k : ℕ). bit (r % 64) (get_or w k 0)) (add-zero (8 * a))) refl r l

  -- no row from n on is selected
  beyond : (r : ℕ) → r < most_qubits → n ≤ r → bit_in both r ≡ false
  beyond r l b = sym (same r l) ∙ sym (x_of (0 + r)) ∙ ap (has_x a) (h.rows (0 + r) (omega arith) (omega arith))

  taken : (r : ℕ) → r < most_qubits → has_x a (rows_from n 0 w r) ≡ bit_in both r
  taken r l = go (dec_lt r n)
    where
      go : Dec (r < n) → has_x a (rows_from n 0 w r) ≡ bit_in both r
      go (yes b) = ap (has_x a) (rows_in n 0 w r b) ∙ x_of (0 + r) ∙ same r l
      go (no b) = ap (has_x a) (rows_out n 0 w r (omega arith)) ∙ sym (beyond r l (omega arith))

  signs : (r : ℕ) → r < most_qubits → (has_x a (rows_from n 0 w r) && (rows_from n most_qubits w r).minus) ≡ s_bit w both r
  signs r l = ap (λ (b : Bool). b && (rows_from n most_qubits w r).minus) (taken r l) ∙ go (dec_lt r n)
    where
      go : Dec (r < n) → (bit_in both r && (rows_from n most_qubits w r).minus) ≡ s_bit w both r
      go (yes b) = ap (λ (q : Row). bit_in both r && q.minus) (rows_in n most_qubits w r b) ∙ ap (λ (u : Bool). bit_in both r && u) (row_sign n w (most_qubits + r))
      go (no b) =
          let e : bit_in both r ≡ false = beyond r l (omega arith) in
          ap (λ (u : Bool). u && (rows_from n most_qubits w r).minus) e ∙ sym (ap (λ (u : Bool). u && bit_at w sign_words (most_qubits + r)) e)

  bits : (r j : ℕ) → r < most_qubits → j < n → cond (has_x a (rows_from n 0 w r)) ((rows_from n most_qubits w r).letters j) I ≡ letter (x_bit w both j r) (z_bit w both j r)
  bits r j l k = ap (λ (b : Bool). cond b ((rows_from n most_qubits w r).letters j) I) (taken r l) ∙ go (dec_lt r n)
    where
      go : Dec (r < n) → cond (bit_in both r) ((rows_from n most_qubits w r).letters j) I ≡ letter (x_bit w both j r) (z_bit w both j r)
      go (yes b) =
          ap (λ (q : Row). cond (bit_in both r) (q.letters j) I) (rows_in n most_qubits w r b) ∙ ap (λ (t : Letter). cond (bit_in both r) t I) (row_letter n w (most_qubits + r) j k)
          ∙ shown (bit_in both r) (bit_at w (8 * j) (most_qubits + r)) (bit_at w (8 * j + 4) (most_qubits + r))
      go (no b) =
          let e : bit_in both r ≡ false = beyond r l (omega arith) in
          ap (λ (u : Bool). cond u ((rows_from n most_qubits w r).letters j) I) e
          ∙ sym (ap (λ (u : Bool). letter (u && bit_at w (8 * j) (most_qubits + r)) (u && bit_at w (8 * j + 4) (most_qubits + r))) e)

  -- from n on there is no row to take
  rest : (k : ℕ) → n ≤ k → gathered n a (rows_of n w) k ≡ gathered n a (rows_of n w) n
  rest zero l =
      let e : 0 ≡ n = omega arith in
      ap (gathered n a (rows_of n w)) e
  rest (suc k) l = go (dec_lt k n) (rest k)
    where
      go : Dec (k < n) → (n ≤ k → gathered n a (rows_of n w) k ≡ gathered n a (rows_of n w) n) → gathered n a (rows_of n w) (suc k) ≡ gathered n a (rows_of n w) n
      go (yes b) ih =
          let e : suc k ≡ n = omega arith in
          ap (gathered n a (rows_of n w)) e
      go (no b) ih =
          let g = gathered n a (rows_of n w) k in
          ap (λ (q : Row). cond (has_x a q) (product n g (phased (rows_from n most_qubits w k))) g) (rows_out n 0 w k (omega arith)) ∙ ih (omega arith)

  pub tied : (gathered n a (rows_of n w) n).phase ≡ all_powers most_qubits n w both
  unfolding all_powers
  tied = ap (λ (p : Phased). p.phase) (sym (rest most_qubits nl)) ∙ exchanged (x_bit w both) (z_bit w both) (s_bit w both) n a most_qubits (rows_of n w) signs bits

  -- one row alone is selected, or none
  only : (p : ℕ) → Has (λ k. eqb k p) both → (k : ℕ) → k < n → has_x a (rows_from n 0 w k) ≡ eqb k p
  only p e k l = taken k (omega arith) ∙ sym (e.row k (omega arith))

  one_row : (p : ℕ) → p < most_qubits → Has (λ k. eqb k p) both → bit_at w sign_words (most_qubits + p) ≡ fixed_value n a (rows_of n w)
  one_row p l e = go (dec_lt p n)
    where
      go : Dec (p < n) → bit_at w sign_words (most_qubits + p) ≡ fixed_value n a (rows_of n w)
      go (yes b) = sym (one_factor n a p (rows_of n w) (only p e) b ∙ ap (λ (q : Row). q.minus) (rows_in n most_qubits w p b) ∙ row_sign n w (most_qubits + p))
      go (no b) = absurd (true≢false (sym (eq-eqb p p refl) ∙ e.row p l ∙ beyond p l (omega arith)))

  pub fixed_none : sel ≡ 0 → tel ≡ 0 → false ≡ fixed_value n a (rows_of n w)
  fixed_none e f =
      sym (no_factor n a most_qubits (rows_of n w) (only most_qubits (record {
        row = λ k l. ne_eqb k most_qubits (λ q. omega arith)
            ∙ sym (each_word (λ g. bit (k % 64) (both g) ≡ false) (ap (bit (k % 64)) e ∙ bit-zero (k % 64)) (ap (bit (k % 64)) f ∙ bit-zero (k % 64)) k l);
      })) nl)

  -- the one row of word g, where the other word is 0
  pub fixed_one : (g : ℕ) → g < 2 → both (1 - g) ≡ 0 → (minus : Bool) → OnlyRow (both g) (get_or w (sign_words + (2 + g)) 0) minus → minus ≡ fixed_value n a (rows_of n w)
  fixed_one g gl other minus o =
      let f : (most_qubits + (64 * g + o.row)) % 64 ≡ o.row = omega (arith, o.below) in
      let t : (most_qubits + (64 * g + o.row)) / 64 ≡ 2 + g = omega (arith, o.below) in
      o.sign ∙ sym (ap₂ (λ (k i : ℕ). bit k (get_or w (sign_words + i) 0)) f t)
      ∙ one_row (64 * g + o.row) (omega (arith, o.below)) (record { row = λ k b. go k b (eqb (k / 64) g) refl })
    where
      go : (k : ℕ) → k < most_qubits → (i : Bool) → eqb (k / 64) g ≡ i → eqb k (64 * g + o.row) ≡ bit_in both k
      go k b true c =
          let h : k / 64 ≡ g = eqb-true (k / 64) g c in
          same_number g o.row k o.below h (eqb (k % 64) o.row) refl ∙ sym (ap (λ (i : ℕ). bit (k % 64) (both i)) h ∙ o.alone (k % 64) (omega arith))
      go k b false c =
          let h : k / 64 ≢ g = eqb-false (k / 64) g c in
          let i : k / 64 ≡ 1 - g = omega arith in
          ne_eqb k (64 * g + o.row) (λ r. omega (arith, o.below)) ∙ sym (ap (bit (k % 64)) (ap both i ∙ other) ∙ bit-zero (k % 64))
