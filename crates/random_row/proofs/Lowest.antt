-- The rows with X or Y at a qubit by the bits of its words, and the lowest of them. Assumes nothing.
use mathlib.Core.Path.{◌≡◌, sym, ap, ap₂, ◌∙◌}
use mathlib.Core.Bool.{true, false, true≢false}
use mathlib.Core.List.{List}
use Rattle.std.specs.Prelude.{None, Some}
use Prim.Native.Nat.{ℕ, ◌+◌, ◌*◌, ◌/◌, ◌%◌, ◌≤◌, ◌<◌}
use native.Mathlib.Decide.{dec_lt}
use native.Mathlib.Omega.{arith}
use lib.Count.{count_trailing_zeros}
use lib.ListN.{get_or}
use Rattle.limits.specs.Limits.{most_qubits}
use Rattle.words.specs.Bit.{bit}
use Rattle.words.proofs.BitLaws.{trailing_below, trailing_at}
use Rattle.pauli.proofs.LetterLaws.{x_letter}
use Rattle.answers.proofs.First.{lowest_some, lowest_none}
use Rattle.clifford.specs.Measurement.{has_x, random_row}
use Rattle.packing.specs.View.{bit_at, row_at, rows_from, rows_of, Holds}
use Rattle.packing.proofs.Views.{rows_in, x_at}

module _ (n : ℕ) (w : List ℕ) (a : ℕ) (h : Holds n w) (nl : n ≤ most_qubits) (an : a < n) where
  -- the word of number g among those that have the x bits of the stabilizers on a
  abbrev word : ℕ → ℕ
  word g = get_or w (8 * a + (2 + g)) 0

  abbrev Empty : ℕ → Type 0
  Empty g = 64 ≤ count_trailing_zeros 64 (word g)

  x_bit : (s : ℕ) → bit_at w (8 * a) s ≡ has_x a (row_at n w s)
  x_bit s = sym (x_at n w s a an ∙ x_letter _ _)

  passes : (i : ℕ) → i < n → has_x a (rows_from n most_qubits w i) ≡ bit_at w (8 * a) (most_qubits + i)
  passes i l = ap (has_x a) (rows_in n most_qubits w i l) ∙ sym (x_bit (most_qubits + i))

  in_word : (g k i : ℕ) → k < 64 → i ≡ 64 * g + k → bit_at w (8 * a) (most_qubits + i) ≡ bit k (word g)
  in_word g k i l e =
      let f : (most_qubits + i) % 64 ≡ k = omega arith in
      let t : (most_qubits + i) / 64 ≡ 2 + g = omega arith in
      ap₂ (λ (b t : ℕ). bit b (get_or w (8 * a + t) 0)) f t

  -- a row that is set is one of the n
  inside : (i : ℕ) → i < most_qubits → bit_at w (8 * a) (most_qubits + i) ≡ true → i < n
  inside i l e = go (dec_lt i n)
    where
      go : Dec (i < n) → i < n
      go (yes b) = b
      go (no b) = absurd (true≢false (sym e ∙ x_bit (most_qubits + i) ∙ ap (has_x a) (h.rows (most_qubits + i) (omega arith) (omega arith))))

  -- the rows below the lowest one of word g, where the words before it are empty
  below : (g : ℕ) → ((e : ℕ) → e < g → Empty e) → (i : ℕ) → i < 64 * g + count_trailing_zeros 64 (word g) → i / 64 ≤ g → bit_at w (8 * a) (most_qubits + i) ≡ false
  below g none_before i l m = in_word (i / 64) (i % 64) i (omega arith) (omega arith) ∙ trailing_below 64 (word (i / 64)) (i % 64) (go (dec_lt (i / 64) g))
    where
      go : Dec (i / 64 < g) → i % 64 < count_trailing_zeros 64 (word (i / 64))
      go (yes b) = omega (arith, none_before (i / 64) b)
      go (no b) =
          let e : i / 64 ≡ g = omega arith in
          let k : i % 64 < count_trailing_zeros 64 (word g) = omega arith in
          rw e k

  pub found_in : (g p : ℕ) → ((e : ℕ) → e < g → Empty e) → count_trailing_zeros 64 (word g) < 64 → p ≡ 64 * g + count_trailing_zeros 64 (word g) → p < most_qubits → Some p ≡ random_row n a (rows_of n w)
  found_in g p none_before l e m =
      let set : bit_at w (8 * a) (most_qubits + p) ≡ true = in_word g (count_trailing_zeros 64 (word g)) p l e ∙ trailing_at 64 (word g) l in
      let b : p < n = inside p m set in
      sym (lowest_some (λ i. has_x a (rows_from n most_qubits w i)) n p (record {
        below = b;
        passes = passes p b ∙ set;
        first = λ k c. passes k (omega arith) ∙ below g none_before k (omega arith) (omega arith);
      }))

  pub found_none : ((e : ℕ) → e < most_qubits / 64 → Empty e) → None ≡ random_row n a (rows_of n w)
  found_none empty =
      sym (lowest_none (λ i. has_x a (rows_from n most_qubits w i)) n (λ k b. passes k b ∙ in_word (k / 64) (k % 64) k (omega arith) (omega arith)
      ∙ trailing_below 64 (word (k / 64)) (k % 64) (let l : k / 64 < most_qubits / 64 = omega arith in omega (arith, empty (k / 64) l))))
