-- The texts that the parts of the writer put: a row letter by letter out of planes, and row behind row. Assumes nothing.
use mathlib.Core.Path.{◌≡◌, refl, sym, ◌∙◌, ap, ap₂}
use mathlib.Core.Bool.{Bool}
use mathlib.Core.List.{List, [], ◌∷◌, ◌++◌}
use Prim.Native.Nat.{ℕ, ◌+◌, ◌*◌, ◌/◌, ◌%◌, ◌≤◌, ◌<◌}
use native.Mathlib.Nat.{add_assoc, add-mul, mul-le-mul_right}
use native.Mathlib.Numerals.{add-one}
use native.Mathlib.Omega.{arith}
use lib.ListN.{length, get_or, set}
use Rattle.pauli.specs.Letters.{letter}
use Rattle.pauli.specs.Texts.{sign_byte, letter_byte, listed, row_text}
use Rattle.words.specs.Bit.{bit}
use Rattle.pauli.proofs.Listed.{length-listed, listed_ext}
use Rattle.packing.specs.View.{sign_words, bit_at, letter_at, row_at, rows_from}
use Rattle.packing.proofs.Views.{guard, guard_in, rows_in}
use Rattle.records.specs.Record.{joined}
use Rattle.records.proofs.Joined.{listed_more, listed_split, joined_append, joined_more}
use Rattle.records.proofs.Lengths.{length-row_text, length-joined}
use Rattle.writing.proofs.Placing.{placed}
use Rattle.writing.specs.Parts.Texts.{texts_from}
use Rattle.packing.specs.Parts.Planes.{plane_letter}
use Rattle.packing.specs.declared.Planes.{Planes}
use Rattle.writing.specs.Parts.Planes.{PlanesOf, plane_row}
use Rattle.writing.proofs.Placing.{set_placed, then_placed}

-- ---- one more letter

module _ (p : Planes) (i : ℕ) where
  -- the first k letters of row i
  unfoldable pub row_letters : ℕ → List ℕ
  row_letters k = listed (λ j. letter_byte (plane_letter p.x p.z i j)) k

  pub row_letters_none : row_letters 0 ≡ []
  unfolding row_letters listed
  row_letters_none = refl

  pub row_letters_more : (k b : ℕ) → b ≡ letter_byte (plane_letter p.x p.z i k) → row_letters k ++ b ∷ [] ≡ row_letters (k + 1)
  unfolding row_letters
  row_letters_more k b e =
      ap (λ (a : ℕ). row_letters k ++ a ∷ []) e ∙ sym (listed_more (λ j. letter_byte (plane_letter p.x p.z i j)) k) ∙ ap (listed (λ j. letter_byte (plane_letter p.x p.z i j))) (sym (add-one k))

  pub length-row_letters : (k : ℕ) → length (row_letters k) ≡ k
  unfolding row_letters
  length-row_letters k = length-listed (λ j. letter_byte (plane_letter p.x p.z i j)) k

  -- a sign, and the letters behind it
  pub row_placed : (n : ℕ) (old : List ℕ) (at b : ℕ) → at + (n + 1) ≤ length old → b ≡ sign_byte (bit i p.signs) → placed (set old at b) (at + 1) (row_letters n) ≡ placed old at (row_text n (plane_row p i))
  unfolding row_letters
  row_placed n old at b h e =
      then_placed old (set old at b) at (b ∷ []) (set_placed old at b (omega arith)) _ (at + 1) (row_letters n) refl refl (omega (arith, length-row_letters n))
      ∙ ap (λ a. placed old at (a ∷ row_letters n)) e

-- ---- one more row

-- the row that planes hold of a word is the row of the words
module _ (w : List ℕ) (p : Planes) (g n : ℕ) (of : PlanesOf w g n p) (i : ℕ) (h : i < 64) where
  -- bit i of word g from o on
  in_word : (o m : ℕ) → o + g ≡ m → bit i (get_or w m 0) ≡ bit_at w o (64 * g + i)
  in_word o m e =
      let a : i ≡ (64 * g + i) % 64 = omega arith in
      let b : m ≡ o + (64 * g + i) / 64 = omega arith in
      ap₂ (λ (p q : ℕ). bit p (get_or w q 0)) a b

  same_letter : (j : ℕ) → j < n → letter_byte (plane_letter p.x p.z i j) ≡ letter_byte (guard n (letter_at w (64 * g + i)) j)
  same_letter j l =
      ap₂ (λ (a b : Bool). letter_byte (letter a b)) (of.xs.bits i j h l ∙ in_word (8 * j) (8 * j + g) refl) (of.zs.bits i j h l ∙ in_word (8 * j + 4) (8 * j + (4 + g)) (omega arith))
      ∙ ap letter_byte (sym (guard_in n (letter_at w (64 * g + i)) j l))

  pub plane_placed : (old new : List ℕ) (at : ℕ) → new ≡ placed old at (row_text n (plane_row p i)) → new ≡ placed old at (row_text n (row_at n w (64 * g + i)))
  unfolding row_at
  plane_placed old new at e =
      e ∙ ap₂ (λ (b : Bool) (t : List ℕ). placed old at (sign_byte b ∷ t)) (ap (bit i) of.signs ∙ in_word sign_words (sign_words + g) refl) (listed_ext _ _ n same_letter)

module _ (n : ℕ) (w : List ℕ) (s : ℕ) where
  abbrev one_text : ℕ → List ℕ
  one_text i = row_text n (row_at n w (s + i))

  pub texts_none : texts_from n w s 0 ≡ []
  unfolding texts_from joined listed
  texts_none = refl

  pub texts_more : (k : ℕ) → texts_from n w s k ++ one_text k ≡ texts_from n w s (k + 1)
  unfolding texts_from
  texts_more k = sym (joined_more (listed one_text k) (one_text k)) ∙ ap joined (sym (listed_more one_text k) ∙ ap (listed one_text) (sym (add-one k)))

  -- rows behind rows
  pub texts_split : (a b : ℕ) → texts_from n w s a ++ texts_from n w (s + a) b ≡ texts_from n w s (a + b)
  unfolding texts_from
  texts_split a b =
      ap (λ (l : List (List ℕ)). texts_from n w s a ++ joined l) (listed_ext _ _ b (λ i l. ap (λ (k : ℕ). row_text n (row_at n w k)) (add_assoc s a i)))
      ∙ sym (joined_append (listed one_text a) (listed (λ i. one_text (a + i)) b)) ∙ ap joined (sym (listed_split one_text a b))

  pub length-texts : (k : ℕ) → length (texts_from n w s k) ≡ k * (n + 1)
  unfolding texts_from
  length-texts k = length-joined one_text (n + 1) k (λ i. length-row_text n (row_at n w (s + i)))

  -- all rows of a kind
  pub texts_all : texts_from n w s n ≡ joined (listed (λ i. row_text n (rows_from n s w i)) n)
  unfolding texts_from
  texts_all = ap joined (listed_ext _ _ n (λ i l. ap (row_text n) (sym (rows_in n s w i l))))

-- a rows and then b rows, of m bytes each, among n
pub rows_end : (a b n m : ℕ) → a + b ≤ n → a * m + b * m ≤ n * m
rows_end a b n m h = omega (arith, add-mul a b m, mul-le-mul_right m h)

-- rows that are placed where the rows before them end
pub then_texts : (n : ℕ) (w old new last : List ℕ) (at s a t b p : ℕ) → new ≡ placed old at (texts_from n w s a) → last ≡ placed new p (texts_from n w t b)
    → t ≡ s + a → p ≡ at + a * (n + 1) → p + b * (n + 1) ≤ length old → last ≡ placed old at (texts_from n w s (a + b))
then_texts n w old new last at s a t b p e f begins follows room =
    let la = length-texts n w s a in
    let lb = length-texts n w t b in
    then_placed old new at (texts_from n w s a) e last p (texts_from n w t b) f (omega arith) (omega arith)
    ∙ ap (λ (k : ℕ). placed old at (texts_from n w s a ++ texts_from n w k b)) begins ∙ ap (placed old at) (texts_split n w s a b)
