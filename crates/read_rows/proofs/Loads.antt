-- All rows of a record as words: those of the words passed are there, and the words to come hold nothing. Assumes nothing.
use mathlib.Core.Path.{◌≡◌, refl, sym, ◌∙◌, ap, ap₂}
use mathlib.Core.Bool.{Bool, true, false, ◌&&◌, cond}
use mathlib.Core.List.{List}
use Prim.Native.Nat.{ℕ, suc, ◌+◌, ◌*◌, ◌/◌, ◌%◌, ◌≤◌, ◌<◌}
use native.Mathlib.Decide.{dec_lt}
use native.Mathlib.Omega.{arith}
use lib.Dec.{ltb}
use lib.ListN.{get_or, drop, length-take, get_or-eq_default}
use borrow.Author.Tests.{lt-ltb, le-ltb}
use Rattle.limits.specs.Limits.{most_qubits}
use Rattle.pauli.specs.Letters.{Letter, I, x, z, letter}
use Rattle.pauli.specs.Texts.{letter_of, spelled}
use Rattle.pauli.proofs.LetterLaws.{letter_bits}
use Rattle.packing.specs.View.{row_count, sign_words, word_count, Words, bit_at, letter_at, row_at, Holds}
use Rattle.packing.proofs.Groups.{each_of, word_of}
use Rattle.packing.proofs.Views.{guarded, row_eq}
use Rattle.words.specs.Bit.{bit}
use Rattle.words.proofs.BitLaws.{bit-zero}
use Rattle.read_rows.specs.Parts.Loading.{column_of, sign_of, Placed, Share, in_record, Loaded}
use Rattle.read_rows.specs.Parts.Texts.{text_of}

-- ---- where the rows of word g begin

-- all of them are among the 2n
pub rows_within : (n g count : ℕ) → g < 4 → 64 * (g % 2) + count ≤ n → n * (g / 2) + 64 * (g % 2) + count ≤ n + n
rows_within n g count h l = each_of (λ g. 64 * (g % 2) + count ≤ n → n * (g / 2) + 64 * (g % 2) + count ≤ n + n) (λ q. omega arith) (λ q. omega arith) (λ q. omega arith) (λ q. omega arith) g h l

module _ (s : List ℕ) (n : ℕ) where
  -- the letter and the sign that row k is to have
  abbrev wanted : ℕ → ℕ → Letter
  wanted k j = cond (ltb (k % most_qubits) n) (column_of s n j (in_record n k)) I

  abbrev wanted_sign : ℕ → Bool
  wanted_sign k = ltb (k % most_qubits) n && sign_of s n (in_record n k)

  -- the rows of the first g words are there; no other word has a bit set, and none from qubit n on
  pub record Begun (g : ℕ) (w : List ℕ) : Type 0 where
    pub words : Words w
    pub letters : (k j : ℕ) → k / 64 < g → j < n → letter_at w k j ≡ wanted k j
    pub signs : (k : ℕ) → k / 64 < g → bit_at w sign_words k ≡ wanted_sign k
    pub rest : (c : ℕ) → c < word_count → g ≤ c % 4 → get_or w c 0 ≡ 0
    pub far : (c : ℕ) → 8 * n ≤ c → c < sign_words → get_or w c 0 ≡ 0

  pub begun_none : (w : List ℕ) → Words w → ((c : ℕ) → c < word_count → get_or w c 0 ≡ 0) → Begun 0 w
  begun_none w l e = record {
    words = l;
    letters = λ k j h. absurd (omega arith);
    signs = λ k h. absurd (omega arith);
    rest = λ c h m. e c h;
    far = λ c h m. e c (omega arith);
  }

  -- ---- a word more

  module _ (g count : ℕ) (gl : g < 4) (sh : Share n g count) (k : ℕ) (e : k / 64 ≡ g) where
    halves : k / most_qubits ≡ g / 2
    halves = omega arith

    in_half : k % most_qubits ≡ 64 * (g % 2) + k % 64
    in_half = omega arith

    passes : ltb (k % 64) count ≡ ltb (k % most_qubits) n
    passes = sh.rows (k % 64) (omega arith) ∙ ap (λ (m : ℕ). ltb m n) (sym in_half)

    same_row : n * (g / 2) + 64 * (g % 2) + k % 64 ≡ in_record n k
    same_row =
        let u : n * (g / 2) ≡ n * (k / most_qubits) = ap (λ (m : ℕ). n * m) (sym halves) in
        omega (arith, u, in_half)

  -- a bit that is set only where a row is
  chosen_bit : (f : Letter → Bool) → f I ≡ false → (b : Bool) (l : Letter) → (b && f l) ≡ f (cond b l I)
  chosen_bit f e true l = refl
  chosen_bit f e false l = sym e

  module _ (g count : ℕ) (w w' : List ℕ) (gl : g < 4) (nl : n ≤ most_qubits) (sh : Share n g count) (b : Begun g w)
      (p : Placed s n (n * (g / 2) + 64 * (g % 2)) count g w w') where
    here_letter : (k j : ℕ) → k / 64 ≡ g → j < n → letter_at w' k j ≡ wanted k j
    here_letter k j e l =
        ap₂ letter
        (ap (λ (m : ℕ). bit (k % 64) (get_or w' (8 * j + m) 0)) e ∙ p.xs j l (k % 64) ∙ ap₂ (λ (c : Bool) (m : ℕ). c && x (column_of s n j m)) (passes g count gl sh k e) (same_row g count gl sh k e) ∙ chosen_bit x refl (ltb (k % most_qubits) n) (column_of s n j (in_record n k)))
        (ap (λ (m : ℕ). bit (k % 64) (get_or w' (8 * j + 4 + m) 0)) e ∙ p.zs j l (k % 64) ∙ ap₂ (λ (c : Bool) (m : ℕ). c && z (column_of s n j m)) (passes g count gl sh k e) (same_row g count gl sh k e) ∙ chosen_bit z refl (ltb (k % most_qubits) n) (column_of s n j (in_record n k)))
        ∙ letter_bits (wanted k j)

    here_sign : (k : ℕ) → k / 64 ≡ g → bit_at w' sign_words k ≡ wanted_sign k
    here_sign k e =
        ap (λ (m : ℕ). bit (k % 64) (get_or w' (sign_words + m) 0)) e ∙ p.signs (k % 64)
        ∙ ap₂ (λ (c : Bool) (m : ℕ). c && sign_of s n m) (passes g count gl sh k e) (same_row g count gl sh k e)

    kept_letter : (k j : ℕ) → k / 64 < g → letter_at w' k j ≡ letter_at w k j
    kept_letter k j h = ap₂ letter (ap (bit (k % 64)) (p.beside (8 * j + k / 64) (λ e. omega arith))) (ap (bit (k % 64)) (p.beside (8 * j + 4 + k / 64) (λ e. omega arith)))

    pub begun_more : Begun (g + 1) w'
    begun_more = record {
      words = p.words;
      letters = λ k j h l. in_letters k j h l (dec_lt (k / 64) g);
      signs = λ k h. in_signs k h (dec_lt (k / 64) g);
      rest = λ c h l. p.beside c (λ e. omega arith) ∙ b.rest c h (omega arith);
      far = λ c h l. p.behind c h l ∙ b.far c h l;
    }
      where
        in_letters : (k j : ℕ) → k / 64 < g + 1 → j < n → Dec (k / 64 < g) → letter_at w' k j ≡ wanted k j
        in_letters k j h l (yes m) = kept_letter k j m ∙ b.letters k j m l
        in_letters k j h l (no m) = here_letter k j (omega arith) l

        in_signs : (k : ℕ) → k / 64 < g + 1 → Dec (k / 64 < g) → bit_at w' sign_words k ≡ wanted_sign k
        in_signs k h (yes m) = ap (bit (k % 64)) (p.beside (sign_words + k / 64) (λ e. omega arith)) ∙ b.signs k m
        in_signs k h (no m) = here_sign k (omega arith)

  -- ---- words that hold nothing

  module _ (g : ℕ) (w : List ℕ) (b : Begun g w) where
    no_letter : (k j : ℕ) → k < row_count → g ≤ k / 64 → j < most_qubits → letter_at w k j ≡ I
    no_letter k j l h m =
        ap₂ letter (ap (bit (k % 64)) (b.rest (8 * j + k / 64) (omega (arith, word_of k l)) (omega (arith, word_of k l))) ∙ bit-zero (k % 64))
        (ap (bit (k % 64)) (b.rest (8 * j + 4 + k / 64) (omega (arith, word_of k l)) (omega (arith, word_of k l))) ∙ bit-zero (k % 64))

    no_sign : (k : ℕ) → k < row_count → g ≤ k / 64 → bit_at w sign_words k ≡ false
    no_sign k l h = ap (bit (k % 64)) (b.rest (sign_words + k / 64) (omega (arith, word_of k l)) (omega (arith, word_of k l))) ∙ bit-zero (k % 64)

    -- a word of which no row is one of the n of its kind
    pub begun_past : (count : ℕ) → g < 4 → n ≤ most_qubits → Share n g count → count ≤ 0 → Begun (g + 1) w
    begun_past count gl nl sh z = record {
      words = b.words;
      letters = λ k j h l. in_letters k j h l (dec_lt (k / 64) g);
      signs = λ k h. in_signs k h (dec_lt (k / 64) g);
      rest = λ c h l. b.rest c h (omega arith);
      far = b.far;
    }
      where
        none : (k : ℕ) → k / 64 ≡ g → ltb (k % most_qubits) n ≡ false
        none k e = sym (passes g count gl sh k e) ∙ le-ltb (k % 64) count (omega arith)

        in_letters : (k j : ℕ) → k / 64 < g + 1 → j < n → Dec (k / 64 < g) → letter_at w k j ≡ wanted k j
        in_letters k j h l (yes m) = b.letters k j m l
        in_letters k j h l (no m) =
            let e : k / 64 ≡ g = omega arith in
            no_letter k j (omega arith) (omega arith) (omega arith) ∙ sym (ap (λ (c : Bool). cond c (column_of s n j (in_record n k)) I) (none k e))

        in_signs : (k : ℕ) → k / 64 < g + 1 → Dec (k / 64 < g) → bit_at w sign_words k ≡ wanted_sign k
        in_signs k h (yes m) = b.signs k m
        in_signs k h (no m) =
            let e : k / 64 ≡ g = omega arith in
            no_sign k (omega arith) (omega arith) ∙ sym (ap (λ (c : Bool). c && sign_of s n (in_record n k)) (none k e))

  -- ---- all of them

  module _ (w : List ℕ) (nl : n ≤ most_qubits) (b : Begun 4 w) where
    letters_in : (k j : ℕ) → k < row_count → j < n → letter_at w k j ≡ wanted k j
    letters_in k j h l = b.letters k j (word_of k h) l

    signs_in : (k : ℕ) → k < row_count → bit_at w sign_words k ≡ wanted_sign k
    signs_in k h = b.signs k (word_of k h)

    no_row : (k : ℕ) → k < row_count → n ≤ k % most_qubits → (j : ℕ) → j < n → letter_at w k j ≡ I
    no_row k h m j l = letters_in k j h l ∙ rw (le-ltb (k % most_qubits) n m)

    only : Holds n w
    unfolding row_at
    only = record {
      words = b.words;
      rows = λ k h m. row_eq _ _ (signs_in k h ∙ rw (le-ltb (k % most_qubits) n m)) (λ j. guarded n (letter_at w k) j I (no_row k h m j) (λ l. refl));
      letters = λ k j h m l.
          ap₂ letter (ap (bit (k % 64)) (b.far (8 * j + k / 64) (omega arith) (omega (arith, word_of k h))) ∙ bit-zero (k % 64))
          (ap (bit (k % 64)) (b.far (8 * j + 4 + k / 64) (omega arith) (omega (arith, word_of k h))) ∙ bit-zero (k % 64));
    }

    module _ (k : ℕ) (h : k < row_count) (m : k % most_qubits < n) where
      abbrev text : List ℕ
      text = text_of s n (in_record n k)

      minus : bit_at w sign_words k ≡ (spelled text).minus
      minus = signs_in k h ∙ ap (λ (c : Bool). c && sign_of s n (in_record n k)) (lt-ltb (k % most_qubits) n m)

      in_text : (j : ℕ) → cond (ltb j n) (letter_at w k j) I ≡ letter_of (get_or text (suc j) 0)
      in_text j =
          guarded n (letter_at w k) j (letter_of (get_or text (suc j) 0))
          (λ l. letters_in k j h l ∙ ap (λ (c : Bool). cond c (column_of s n j (in_record n k)) I) (lt-ltb (k % most_qubits) n m))
          (λ l. ap letter_of (get_or-eq_default text 0 (omega (arith, length-take (n + 1) (drop (in_record n k * (n + 1)) s)))))

      row : row_at n w k ≡ spelled text
      unfolding row_at
      row = λ i. record { minus = minus i; letters = λ j. in_text j i }

    pub loaded : Loaded s n w
    loaded = record { rows = row; only = only }
