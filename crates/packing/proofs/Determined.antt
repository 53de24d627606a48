-- Where nothing is set from row n or qubit n on, the rows determine the words. Assumes nothing.
use mathlib.Core.Path.{◌≡◌, refl, sym, ap, ◌∙◌}
use mathlib.Core.List.{List}
use Prim.Native.Nat.{ℕ, zero, suc, ◌+◌, ◌-◌, ◌*◌, ◌/◌, ◌%◌, ◌^◌, ◌≤◌, ◌<◌}
use native.Mathlib.Nat.{mod-lt, zero-lt-suc, pow-suc}
use native.Mathlib.Decide.{dec_lt}
use native.Mathlib.Omega.{arith}
use lib.Dec.{eqb}
use Rattle.std.proofs.lemmas.Bool.Decides.{nat_tests}
use lib.ListN.{get_or}
use lib.Seq.{ext_get_or}
use Rattle.words.specs.Bit.{bit}
use Rattle.words.proofs.BitLaws.{bit-low, bit-suc}
use Rattle.pauli.specs.Letters.{x, z}
use Rattle.pauli.specs.Rows.{Row}
use Rattle.pauli.proofs.LetterLaws.{x_letter, z_letter}
use Rattle.clifford.specs.Tableau.{Rows}
use Rattle.limits.specs.Limits.{most_qubits}
use Rattle.packing.specs.View.{row_count, sign_words, word_count, bit_at, letter_at, row_at, rows_from, rows_of, Holds}
use Rattle.packing.proofs.Views.{guard_in, rows_in}

-- ---- words by their bits

digits : (a b : ℕ) → a < 2 → b < 2 → eqb a 1 ≡ eqb b 1 → a ≡ b
digits a b ha hb e = grind (arith, nat_tests)

pub same_bits : (m a b : ℕ) → a < 2 ^ m → b < 2 ^ m → ((k : ℕ) → k < m → bit k a ≡ bit k b) → a ≡ b
same_bits zero a b ha hb e = omega arith
same_bits (suc m) a b ha hb e =
    let l : a % 2 ≡ b % 2 = digits (a % 2) (b % 2) (mod-lt a (zero-lt-suc 1)) (mod-lt b (zero-lt-suc 1)) (sym (bit-low a) ∙ e 0 (omega arith) ∙ bit-low b) in
    let h : a / 2 ≡ b / 2 = same_bits m (a / 2) (b / 2) (omega (arith, pow-suc 2 m)) (omega (arith, pow-suc 2 m)) (λ k i. sym (bit-suc k a) ∙ e (suc k) (omega arith) ∙ bit-suc k b) in
    omega arith

-- ---- rows by their letters

pub row_sign : (n : ℕ) (w : List ℕ) (s : ℕ) → (row_at n w s).minus ≡ bit_at w sign_words s
unfolding row_at
row_sign n w s = refl

pub row_letter : (n : ℕ) (w : List ℕ) (s j : ℕ) → j < n → (row_at n w s).letters j ≡ letter_at w s j
unfolding row_at
row_letter n w s j l = guard_in n (letter_at w s) j l

module _ (n : ℕ) (nl : n ≤ most_qubits) (v w : List ℕ) (hv : Holds n v) (hw : Holds n w) (e : rows_of n v ≡ rows_of n w) where
  -- every row of the words is the same, of the n and beyond
  same_row : (s : ℕ) → s < row_count → row_at n v s ≡ row_at n w s
  same_row s l = go (dec_lt (s % most_qubits) n) (dec_lt s most_qubits)
    where
      in_group : (o : ℕ) → o + s % most_qubits ≡ s → s % most_qubits < n → rows_from n o v (s % most_qubits) ≡ rows_from n o w (s % most_qubits) → row_at n v s ≡ row_at n w s
      in_group o f b q =
          ap (row_at n v) (sym f) ∙ sym (rows_in n o v (s % most_qubits) b) ∙ q ∙ rows_in n o w (s % most_qubits) b ∙ ap (row_at n w) f

      go : Dec (s % most_qubits < n) → Dec (s < most_qubits) → row_at n v s ≡ row_at n w s
      go (yes b) (yes c) = in_group 0 (omega arith) b (ap (λ (t : Rows). t.destabilizer (s % most_qubits)) e)
      go (yes b) (no c) = in_group most_qubits (omega arith) b (ap (λ (t : Rows). t.stabilizer (s % most_qubits)) e)
      go (no b) d = hv.rows s l (omega arith) ∙ sym (hw.rows s l (omega arith))

  same_letter : (s j : ℕ) → s < row_count → j < most_qubits → letter_at v s j ≡ letter_at w s j
  same_letter s j l jl = go (dec_lt j n)
    where
      go : Dec (j < n) → letter_at v s j ≡ letter_at w s j
      go (yes b) = sym (row_letter n v s j b) ∙ ap (λ (r : Row). r.letters j) (same_row s l) ∙ row_letter n w s j b
      go (no b) = hv.letters s j l (omega arith) jl ∙ sym (hw.letters s j l (omega arith) jl)

  same_x : (s j : ℕ) → s < row_count → j < most_qubits → bit_at v (8 * j) s ≡ bit_at w (8 * j) s
  same_x s j l jl = sym (x_letter _ (bit_at v (8 * j + 4) s)) ∙ ap x (same_letter s j l jl) ∙ x_letter _ (bit_at w (8 * j + 4) s)

  same_z : (s j : ℕ) → s < row_count → j < most_qubits → bit_at v (8 * j + 4) s ≡ bit_at w (8 * j + 4) s
  same_z s j l jl = sym (z_letter (bit_at v (8 * j) s) _) ∙ ap z (same_letter s j l jl) ∙ z_letter (bit_at w (8 * j) s) _

  same_sign : (s : ℕ) → s < row_count → bit_at v sign_words s ≡ bit_at w sign_words s
  same_sign s l = sym (row_sign n v s) ∙ ap (λ (r : Row). r.minus) (same_row s l) ∙ row_sign n w s

  -- word g of the group from o on
  in_word : (o g k i : ℕ) → k < 64 → g < 4 → o + g ≡ i → ((s : ℕ) → s < row_count → bit_at v o s ≡ bit_at w o s) → bit k (get_or v i 0) ≡ bit k (get_or w i 0)
  in_word o g k i kl gl f q =
      let p : (64 * g + k) % 64 ≡ k = omega arith in
      let r : o + (64 * g + k) / 64 ≡ i = omega arith in
      sym (ap (λ (t : ℕ). bit t (get_or v i 0)) p) ∙ sym (ap (λ (t : ℕ). bit ((64 * g + k) % 64) (get_or v t 0)) r) ∙ q (64 * g + k) (omega arith)
      ∙ ap (λ (t : ℕ). bit ((64 * g + k) % 64) (get_or w t 0)) r ∙ ap (λ (t : ℕ). bit t (get_or w i 0)) p

  same_bit : (i k : ℕ) → i < word_count → k < 64 → bit k (get_or v i 0) ≡ bit k (get_or w i 0)
  same_bit i k il kl = go (dec_lt i sign_words) (dec_lt (i % 8) 4)
    where
      go : Dec (i < sign_words) → Dec (i % 8 < 4) → bit k (get_or v i 0) ≡ bit k (get_or w i 0)
      go (yes a) (yes b) = in_word (8 * (i / 8)) (i % 8) k i kl b (omega arith) (λ s l. same_x s (i / 8) l (omega arith))
      go (yes a) (no b) = in_word (8 * (i / 8) + 4) (i % 8 - 4) k i kl (omega arith) (omega arith) (λ s l. same_z s (i / 8) l (omega arith))
      go (no a) d = in_word sign_words (i - sign_words) k i kl (omega arith) (omega arith) same_sign

  pub determined : ((i : ℕ) → get_or v i 0 < 2 ^ 64) → ((i : ℕ) → get_or w i 0 < 2 ^ 64) → v ≡ w
  determined fv fw =
      ext_get_or 0 v w (hv.words ∙ sym hw.words)
      (λ i l. same_bits 64 (get_or v i 0) (get_or w i 0) (fv i) (fw i) (λ k kl. same_bit i k (omega (arith, hv.words)) kl))
