-- Words that hold nothing from row n on have equal stabilizer rows exactly when the words of the stabilizers are equal. Assumes nothing.
use mathlib.Core.Path.{◌≡◌, refl, sym, ◌∙◌, ap, ap₂}
use mathlib.Core.Bool.{Bool, true, false, ◌&&◌}
use mathlib.Core.List.{List}
use Prim.Native.Nat.{ℕ, zero, suc, ◌+◌, ◌*◌, ◌/◌, ◌%◌, ◌^◌, ◌≤◌, ◌<◌}
use native.Mathlib.Decide.{dec_lt}
use native.Mathlib.Nat.{add-zero, add-suc, zero-add}
use native.Mathlib.Omega.{arith}
use lib.Dec.{eqb}
use lib.ListN.{length, get_or}
use Rattle.std.specs.List.{list_all, range_with_len}
use Rattle.std.proofs.lemmas.List.FromFn.{length-range_with_len, get_or-range_with_len}
use Rattle.std.proofs.lemmas.List.Sums.{AllPass-from_list_all, list_all-from_AllPass}
use borrow.Author.Tests.{eqb-true, eqb-false}
use Rattle.limits.specs.Limits.{most_qubits}
use Rattle.pauli.specs.Letters.{x, z, letter}
use Rattle.pauli.specs.Rows.{Row}
use Rattle.pauli.proofs.LetterLaws.{x_letter, z_letter}
use Rattle.words.specs.Bit.{bit}
use Rattle.packing.specs.View.{sign_words, bit_at, letter_at, row_at, rows_from, Holds}
use Rattle.packing.proofs.Views.{row_eq, rows_in}
use Rattle.packing.proofs.Determined.{same_bits, row_sign, row_letter}
use Rattle.writing.proofs.Packed.{rows_clean}
use Rattle.archive.specs.Same.{all_of, equal_bits, equal_rows}
use Rattle.archive.specs.Parts.Words.{equal_words, equal_groups}
use Rattle.archive.proofs.Alike.{SameRow, all_at, all_made, bits_same, bit-itself, row_same, row_equal}

-- ---- words

equal_made : (a b : Bool) → a ≡ b → equal_bits a b ≡ true
equal_made a b e = ap (equal_bits a) (sym e) ∙ bit-itself a

pub words_decide : (a b : ℕ) → a < 2 ^ 64 → b < 2 ^ 64 → eqb a b ≡ equal_words a b
words_decide a b la lb = go (eqb a b) (equal_words a b) refl refl
  where
    go : (c d : Bool) → eqb a b ≡ c → equal_words a b ≡ d → c ≡ d
    go true true e f = refl
    go true false e f = sym (all_made _ 64 (λ k l. equal_made (bit k a) (bit k b) (ap (bit k) (eqb-true a b e)))) ∙ f
    go false true e f = absurd (eqb-false a b e (same_bits 64 a b la lb (λ k l. bits_same (bit k a) (bit k b) (all_at (λ k. equal_bits (bit k a) (bit k b)) 64 f k l))))
    go false false e f = refl

-- ---- groups of words

and_true : (a : Bool) → a ≡ a && true
and_true true = refl
and_true false = refl

and_and : (a b c : Bool) → (a && b) && c ≡ a && (b && c)
and_and true b c = refl
and_and false b c = refl

all_split : (f : ℕ → Bool) (a b : ℕ) → all_of f (a + b) ≡ all_of f a && all_of (λ i. f (a + i)) b
all_split f a zero = ap (all_of f) (add-zero a) ∙ and_true (all_of f a)
all_split f a (suc b) = ap (all_of f) (add-suc a b) ∙ ap (λ (c : Bool). c && f (a + b)) (all_split f a b) ∙ and_and (all_of f a) (all_of (λ i. f (a + i)) b) (f (a + b))

all_cong : (f g : ℕ → Bool) (n : ℕ) → ((i : ℕ) → i < n → f i ≡ g i) → all_of f n ≡ all_of g n
all_cong f g zero e = refl
all_cong f g (suc n) e = ap₂ ◌&&◌ (all_cong f g n (λ i l. e i (omega arith))) (e n (omega arith))

module _ (v w : List ℕ) (o : ℕ) where
  abbrev stabilizer_bits : ℕ → Bool
  stabilizer_bits i = equal_bits (bit_at v o (most_qubits + i)) (bit_at w o (most_qubits + i))

  -- word h of the group has the 64 stabilizers from p on
  in_word : (h p : ℕ) → most_qubits + p ≡ 64 * h → all_of (λ i. stabilizer_bits (p + i)) 64 ≡ equal_words (get_or v (o + h) 0) (get_or w (o + h) 0)
  in_word h p e = all_cong _ _ 64 (λ i l. one i l)
    where
      one : (i : ℕ) → i < 64 → stabilizer_bits (p + i) ≡ equal_bits (bit i (get_or v (o + h) 0)) (bit i (get_or w (o + h) 0))
      one i l =
          let a : (most_qubits + (p + i)) % 64 ≡ i = omega arith in
          let b : (most_qubits + (p + i)) / 64 ≡ h = omega arith in
          ap₂ (λ (k g : ℕ). equal_bits (bit k (get_or v (o + g) 0)) (bit k (get_or w (o + g) 0))) a b

  pub group_words : equal_words (get_or v (o + 2) 0) (get_or w (o + 2) 0) && equal_words (get_or v (o + 3) 0) (get_or w (o + 3) 0) ≡ equal_groups v w o
  group_words = sym (all_split stabilizer_bits 64 64 ∙ ap₂ ◌&&◌ (all_cong _ _ 64 (λ i l. ap stabilizer_bits (sym (zero-add i))) ∙ in_word 2 0 refl) (in_word 3 64 refl))

-- the groups of letters of n qubits, as the code goes over them
abbrev pub group_equal : List ℕ → List ℕ → ℕ → Bool
group_equal v w q = equal_groups v w (4 * q)

module _ (f : ℕ → Bool) (m : ℕ) where
  each_passes : list_all f (range_with_len 0 m) ≡ true → (q : ℕ) → q < m → f q ≡ true
  each_passes e q h =
      let k : get_or (range_with_len 0 m) q 0 ≡ q = get_or-range_with_len 0 m q 0 h ∙ zero-add q in
      ap f (sym k) ∙ AllPass-from_list_all f (range_with_len 0 m) e q 0 (omega (arith, length-range_with_len 0 m))

  all_pass : ((q : ℕ) → q < m → f q ≡ true) → list_all f (range_with_len 0 m) ≡ true
  all_pass e = list_all-from_AllPass f (range_with_len 0 m) (λ (k : ℕ) (d : ℕ) (h : k < length (range_with_len 0 m)).
      let l : k < m = omega (arith, length-range_with_len 0 m) in
      ap f (get_or-range_with_len 0 m k d l ∙ zero-add k) ∙ e k l)

-- ---- rows

-- the bits of row s are equal, on the first n qubits
record SameBits (n : ℕ) (v w : List ℕ) (s : ℕ) : Type 0 where
  signs : bit_at v sign_words s ≡ bit_at w sign_words s
  x_bits : (j : ℕ) → j < n → bit_at v (8 * j) s ≡ bit_at w (8 * j) s
  z_bits : (j : ℕ) → j < n → bit_at v (8 * j + 4) s ≡ bit_at w (8 * j + 4) s

module _ (n : ℕ) (v w : List ℕ) (s : ℕ) where
  row_bits : row_at n v s ≡ row_at n w s → SameBits n v w s
  row_bits e = record {
    signs = sym (row_sign n v s) ∙ ap (λ (r : Row). r.minus) e ∙ row_sign n w s;
    x_bits = λ j l. sym (x_letter _ (bit_at v (8 * j + 4) s)) ∙ ap x (same j l) ∙ x_letter _ (bit_at w (8 * j + 4) s);
    z_bits = λ j l. sym (z_letter (bit_at v (8 * j) s) _) ∙ ap z (same j l) ∙ z_letter (bit_at w (8 * j) s) _;
  }
    where
      same : (j : ℕ) → j < n → letter_at v s j ≡ letter_at w s j
      same j l = sym (row_letter n v s j l) ∙ ap (λ (r : Row). r.letters j) e ∙ row_letter n w s j l

  bits_row : SameBits n v w s → SameRow n (row_at n v s) (row_at n w s)
  bits_row e = record {
    signs = row_sign n v s ∙ e.signs ∙ sym (row_sign n w s);
    letters = λ j l. row_letter n v s j l ∙ ap₂ letter (e.x_bits j l) (e.z_bits j l) ∙ sym (row_letter n w s j l);
  }

-- equal row by row
abbrev pub agree : ℕ → List ℕ → List ℕ → Bool
agree n v w = all_of (λ i. equal_rows n (rows_from n most_qubits v i) (rows_from n most_qubits w i)) n

module _ (n : ℕ) (v w : List ℕ) (most : n ≤ most_qubits) (hv : Holds n v) (hw : Holds n w) where
  abbrev row_by_row : ℕ → Bool
  row_by_row i = equal_rows n (rows_from n most_qubits v i) (rows_from n most_qubits w i)

  whole_row : (i : ℕ) → SameRow n (rows_from n most_qubits v i) (rows_from n most_qubits w i) → rows_from n most_qubits v i ≡ rows_from n most_qubits w i
  whole_row i e = row_eq _ _ e.signs (λ j. go j (dec_lt j n))
    where
      go : (j : ℕ) → Dec (j < n) → (rows_from n most_qubits v i).letters j ≡ (rows_from n most_qubits w i).letters j
      go j (yes l) = e.letters j l
      go j (no l) = (rows_clean n v).stabilizers.letters i j (omega arith) ∙ sym ((rows_clean n w).stabilizers.letters i j (omega arith))

  -- every stabilizer of the words, of the n and beyond
  agreed : agree n v w ≡ true → (i : ℕ) → i < most_qubits → SameBits n v w (most_qubits + i)
  agreed e i l = row_bits n v w (most_qubits + i) (go (dec_lt i n))
    where
      go : Dec (i < n) → row_at n v (most_qubits + i) ≡ row_at n w (most_qubits + i)
      go (yes h) =
          sym (rows_in n most_qubits v i h) ∙ whole_row i (row_same n (rows_from n most_qubits v i) (rows_from n most_qubits w i) (all_at row_by_row n e i h)) ∙ rows_in n most_qubits w i h
      go (no h) = hv.rows (most_qubits + i) (omega arith) (omega arith) ∙ sym (hw.rows (most_qubits + i) (omega arith) (omega arith))

  -- where the rows agree, a group that has bits of theirs is equal
  decides : (o : ℕ) → ((s : ℕ) → SameBits n v w s → bit_at v o s ≡ bit_at w o s) → agree n v w ≡ true → equal_groups v w o ≡ true
  decides o f e = all_made _ most_qubits (λ i l. equal_made (bit_at v o (most_qubits + i)) (bit_at w o (most_qubits + i)) (f (most_qubits + i) (agreed e i l)))

  -- group q is that of the x bits of qubit q / 2, or of its z bits
  of_group : (q : ℕ) → q < 2 * n → (s : ℕ) → SameBits n v w s → bit_at v (4 * q) s ≡ bit_at w (4 * q) s
  of_group q l s e = go (dec_lt (q % 2) 1)
    where
      go : Dec (q % 2 < 1) → bit_at v (4 * q) s ≡ bit_at w (4 * q) s
      go (yes h) =
          let p : 4 * q ≡ 8 * (q / 2) = omega arith in
          rw p (e.x_bits (q / 2) (omega arith))
      go (no h) =
          let p : 4 * q ≡ 8 * (q / 2) + 4 = omega arith in
          rw p (e.z_bits (q / 2) (omega arith))

  differs : (o : ℕ) → ((s : ℕ) → SameBits n v w s → bit_at v o s ≡ bit_at w o s) → equal_groups v w o ≡ false → false ≡ agree n v w
  differs o f d = go (agree n v w) refl
    where
      go : (b : Bool) → agree n v w ≡ b → false ≡ b
      go true e = sym d ∙ decides o f e
      go false e = refl

  pub differ : list_all (group_equal v w) (range_with_len 0 (2 * n)) ≡ false → false ≡ agree n v w
  differ d = go (agree n v w) refl
    where
      go : (b : Bool) → agree n v w ≡ b → false ≡ b
      go true e = sym d ∙ all_pass (group_equal v w) (2 * n) (λ q l. decides (4 * q) (of_group q l) e)
      go false e = refl

  -- all groups of letters are equal, so that the signs decide
  pub signs_decide : list_all (group_equal v w) (range_with_len 0 (2 * n)) ≡ true → equal_groups v w sign_words ≡ agree n v w
  signs_decide all = go (equal_groups v w sign_words) refl
    where
      f : (p : ℕ) → p < 2 * n → group_equal v w p ≡ true
      f = each_passes (group_equal v w) (2 * n) all

      equal_bit : (o i : ℕ) → i < most_qubits → equal_groups v w o ≡ true → bit_at v o (most_qubits + i) ≡ bit_at w o (most_qubits + i)
      equal_bit o i l e = bits_same (bit_at v o (most_qubits + i)) (bit_at w o (most_qubits + i)) (all_at (stabilizer_bits v w o) most_qubits e i l)

      in_group : (o p i : ℕ) → 4 * p ≡ o → p < 2 * n → i < most_qubits → bit_at v o (most_qubits + i) ≡ bit_at w o (most_qubits + i)
      in_group o p i e l il = rw (sym e) (equal_bit (4 * p) i il (f p l))

      equal_row : equal_groups v w sign_words ≡ true → (i : ℕ) → i < n → row_by_row i ≡ true
      equal_row e i l =
          let r : SameRow n (row_at n v (most_qubits + i)) (row_at n w (most_qubits + i)) = bits_row n v w (most_qubits + i) (record {
            signs = equal_bit sign_words i (omega arith) e;
            x_bits = λ j h. in_group (8 * j) (2 * j) i (omega arith) (omega arith) (omega arith);
            z_bits = λ j h. in_group (8 * j + 4) (2 * j + 1) i (omega arith) (omega arith) (omega arith);
          }) in
          ap₂ (equal_rows n) (rows_in n most_qubits v i l) (rows_in n most_qubits w i l) ∙ row_equal n (row_at n v (most_qubits + i)) (row_at n w (most_qubits + i)) r

      go : (b : Bool) → equal_groups v w sign_words ≡ b → b ≡ agree n v w
      go true e = sym (all_made row_by_row n (equal_row e))
      go false e = differs sign_words (λ s b. b.signs) e
