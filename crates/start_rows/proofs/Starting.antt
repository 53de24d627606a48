-- The words of the start rows: in the x words of qubit k row k alone is set, and in its z words row 128 + k. Assumes nothing.
use mathlib.Core.Path.{◌≡◌, refl, sym, ap, ap₂, ◌∙◌}
use mathlib.Core.Bool.{Bool, false, not, cond}
use mathlib.Core.List.{List}
use Prim.Native.Nat.{ℕ, ◌+◌, ◌*◌, ◌/◌, ◌%◌, ◌^◌, ◌≤◌, ◌<◌}
use native.Mathlib.Nat.{mod-lt, zero-lt-suc}
use native.Mathlib.Omega.{arith}
use borrow.Author.Count.{below_more}
use lib.Dec.{eqb, ltb}
use Rattle.std.proofs.lemmas.Bool.Decides.{nat_tests}
use lib.ListN.{get_or, set}
use borrow.Author.Tests.{ne_eqb, lt-ltb, le-ltb}
use Rattle.limits.specs.Limits.{most_qubits}
use Rattle.words.specs.Bit.{bit}
use Rattle.words.proofs.BitLaws.{bit-zero, bit-shl}
use Rattle.pauli.specs.Letters.{Letter, I, X, Z, letter}
use Rattle.clifford.specs.Tableau.{alone, blank, start}
use Rattle.packing.specs.View.{row_count, sign_words, word_count, Words, bit_at, letter_at, row_at, rows_from, rows_of, Holds}
use Rattle.packing.specs.Parts.Changes.{Changed}
use Rattle.packing.proofs.Groups.{word_of, changed_one, elsewhere, new_letter, old_letter}
use Rattle.packing.proofs.Views.{row_eq, guarded, all_rows}

-- the first i qubits have their letters, and nothing else is set
pub record Started (i : ℕ) (w : List ℕ) : Type 0 where
  pub words : Words w
  pub done : (k s : ℕ) → k < i → s < row_count → letter_at w s k ≡ letter (eqb s k) (eqb s (most_qubits + k))
  pub rest : (k : ℕ) → 8 * i ≤ k → k < word_count → get_or w k 0 ≡ 0

pub started_none : (w : List ℕ) → Words w → ((k : ℕ) → k < word_count → get_or w k 0 ≡ 0) → Started 0 w
started_none w lw e = record { words = lw; done = λ k s l. absurd (omega arith); rest = λ k l h. e k h }

-- a row's bit alone, in words that had none
lone : (w : List ℕ) (o t i q s : ℕ) → q / 64 ≡ t → q % 64 ≡ i → i < 64 → bit_at w o s ≡ false
    → cond (eqb (s / 64) t) (bit (s % 64) ((1 * 2 ^ i) % 2 ^ 64)) (bit_at w o s) ≡ eqb s q
lone w o t i q s et ei il z =
    let one : cond (eqb (s / 64) t) (eqb (s % 64) i) false ≡ eqb s q = grind (arith, nat_tests) in
    rw (bit-shl (s % 64) i il, z) one

module _ (i : ℕ) (w : List ℕ) (il : i < most_qubits) (a : Started i w) where
  abbrev b : ℕ
  b = (1 * 2 ^ (i % 64)) % 2 ^ 64

  abbrev u : List ℕ
  u = set w (8 * i + i / 64) b

  abbrev v : List ℕ
  v = set u (8 * i + 4 + (2 + i / 64)) b

  c1 : Changed (8 * i) (λ s. cond (eqb (s / 64) (i / 64)) (bit (s % 64) b) (bit_at w (8 * i) s)) w u
  c1 = changed_one w a.words (8 * i) (omega arith) (i / 64) (omega arith) b

  c2 : Changed (8 * i + 4) (λ s. cond (eqb (s / 64) (2 + i / 64)) (bit (s % 64) b) (bit_at u (8 * i + 4) s)) u v
  c2 = changed_one u c1.words (8 * i + 4) (omega arith) (2 + i / 64) (omega arith) b

  nothing : (o s : ℕ) → 8 * i ≤ o → o + 4 ≤ word_count → s < row_count → bit_at w o s ≡ false
  nothing o s l h sl = ap (bit (s % 64)) (a.rest (o + s / 64) (omega arith) (omega (arith, word_of s sl))) ∙ bit-zero (s % 64)

  here : (s : ℕ) → s < row_count → letter_at v s i ≡ letter (eqb s i) (eqb s (most_qubits + i))
  here s l =
      new_letter i il c1 c2 s l
      ∙ ap₂ letter (lone w (8 * i) (i / 64) (i % 64) i s refl refl (mod-lt i (zero-lt-suc 63)) (nothing (8 * i) s (omega arith) (omega arith) l))
      (lone u (8 * i + 4) (2 + i / 64) (i % 64) (most_qubits + i) s (omega arith) (omega arith) (mod-lt i (zero-lt-suc 63))
      (elsewhere c1 (8 * i + 4) s l (λ h. omega arith) (λ h. omega arith) ∙ nothing (8 * i + 4) s (omega arith) (omega arith) l))

  pub started_more : Started (i + 1) v
  started_more = record {
    words = c2.words;
    done = λ k s l sl. below_more (λ (j : ℕ). letter_at v s j ≡ letter (eqb s j) (eqb s (most_qubits + j))) i
        (λ j h. old_letter i il c1 c2 s j sl (λ e. omega arith) ∙ a.done j s h sl) (here s sl) k l;
    rest = λ k l h. c2.behind k (omega arith) ∙ c1.behind k (omega arith) ∙ a.rest k (omega arith) h;
  }

module _ (n : ℕ) (w : List ℕ) (nl : n ≤ most_qubits) (a : Started n w) where
  sign : (s : ℕ) → s < row_count → bit_at w sign_words s ≡ false
  sign s l = ap (bit (s % 64)) (a.rest (sign_words + s / 64) (omega arith) (omega (arith, word_of s l))) ∙ bit-zero (s % 64)

  far : (s j : ℕ) → s < row_count → n ≤ j → j < most_qubits → letter_at w s j ≡ I
  far s j l h jl =
      ap₂ letter (ap (bit (s % 64)) (a.rest (8 * j + s / 64) (omega arith) (omega (arith, word_of s l))) ∙ bit-zero (s % 64))
      (ap (bit (s % 64)) (a.rest (8 * j + 4 + s / 64) (omega arith) (omega (arith, word_of s l))) ∙ bit-zero (s % 64))

  -- one letter, at the qubit of the row's own number
  own : (s j : ℕ) → s < row_count → j < n → (l : Letter) → letter (ltb s most_qubits) (not (ltb s most_qubits)) ≡ l → letter_at w s j ≡ cond (eqb j (s % most_qubits)) l I
  own s j sl jl l e =
      let one : letter (eqb s j) (eqb s (most_qubits + j)) ≡ cond (eqb j (s % most_qubits)) l I = grind (arith, nat_tests, e) in
      a.done j s jl sl ∙ one

  pub started : rows_of n w ≡ start n
  unfolding row_at
  started = λ k. record { destabilizer = λ i. ds i k; stabilizer = λ i. ss i k }
    where
      each : (o i : ℕ) → o + i < row_count → (o + i) % most_qubits ≡ i → i < n → (l : Letter) → letter (ltb (o + i) most_qubits) (not (ltb (o + i) most_qubits)) ≡ l → row_at n w (o + i) ≡ record { minus = false; letters = alone l i }
      each o i h e b l g =
          row_eq _ _ (sign (o + i) h) (λ j. guarded n (letter_at w (o + i)) j (cond (eqb j i) l I)
          (λ c. own (o + i) j h c l g ∙ ap (λ (m : ℕ). cond (eqb j m) l I) e)
          (λ c. ap (λ (p : Bool). cond p l I) (ne_eqb j i (λ r. omega arith))))

      ds : (i : ℕ) → rows_from n 0 w i ≡ cond (ltb i n) (record { minus = false; letters = alone X i }) blank
      ds = all_rows n 0 w (λ i. cond (ltb i n) (record { minus = false; letters = alone X i }) blank)
          (λ i l. each 0 i (omega arith) (omega arith) l X (ap₂ letter (lt-ltb (0 + i) most_qubits (omega arith)) (ap not (lt-ltb (0 + i) most_qubits (omega arith))))
          ∙ ap (λ (p : Bool). cond p (record { minus = false; letters = alone X i }) blank) (sym (lt-ltb i n l)))
          (λ i l. ap (λ (p : Bool). cond p (record { minus = false; letters = alone X i }) blank) (le-ltb i n l))

      ss : (i : ℕ) → rows_from n most_qubits w i ≡ cond (ltb i n) (record { minus = false; letters = alone Z i }) blank
      ss = all_rows n most_qubits w (λ i. cond (ltb i n) (record { minus = false; letters = alone Z i }) blank)
          (λ i l. each most_qubits i (omega arith) (omega arith) l Z (ap₂ letter (le-ltb (most_qubits + i) most_qubits (omega arith)) (ap not (le-ltb (most_qubits + i) most_qubits (omega arith))))
          ∙ ap (λ (p : Bool). cond p (record { minus = false; letters = alone Z i }) blank) (sym (lt-ltb i n l)))
          (λ i l. ap (λ (p : Bool). cond p (record { minus = false; letters = alone Z i }) blank) (le-ltb i n l))

  pub start_held : Holds n w
  unfolding row_at
  start_held = record {
    words = a.words;
    rows = λ s l h. row_eq _ _ (sign s l) (λ j. guarded n (letter_at w s) j I (λ b. a.done j s b l ∙ ap₂ letter (ne_eqb s j (λ r. omega arith)) (ne_eqb s (most_qubits + j) (λ r. omega arith))) (λ b. refl));
    letters = far;
  }

-- words in which nothing is set hold any number of rows
pub blank_held : (n : ℕ) (w : List ℕ) → n ≤ most_qubits → Words w → ((k : ℕ) → k < word_count → get_or w k 0 ≡ 0) → Holds n w
unfolding row_at
blank_held n w nl lw e =
    let a : Started 0 w = started_none w lw e in
    let none : (s j : ℕ) → s < row_count → j < most_qubits → letter_at w s j ≡ I = λ s j l h. far 0 w (omega arith) a s j l (omega arith) h in
    record {
      words = lw;
      rows = λ s l h. row_eq _ _ (sign 0 w (omega arith) a s l) (λ j. guarded n (letter_at w s) j I (λ b. none s j l (omega arith)) (λ b. refl));
      letters = λ s j l h jl. none s j l jl;
    }
