-- The first place that passes a test, found part by part, and the bytes of a record by their places. Assumes nothing.
use mathlib.Core.Path.{◌≡◌, refl, sym, ◌∙◌, ap, subst}
use mathlib.Core.Bool.{Bool, true, false, not, ◌&&◌}
use mathlib.Core.List.{List, ◌∷◌, ◌++◌}
use Rattle.std.specs.Prelude.{Option, None, Some}
use Prim.Native.Nat.{ℕ, zero, suc, ◌+◌, ◌-◌, ◌*◌, ◌%◌, ◌≤◌, ◌<◌}
use native.Mathlib.Decide.{dec_lt}
use native.Mathlib.Nat.{add-mul, mul-le-mul_right}
use native.Mathlib.Numerals.{one-add}
use native.Mathlib.Omega.{arith}
use lib.Arith.{digits_mod}
use lib.ListN.{length, get_or, get_or-append}
use lib.Seq.{get_or-append-add}
use borrow.Author.Tests.{lt-ltb, le-ltb}
use Rattle.answers.specs.First.{lowest}
use Rattle.answers.proofs.First.{Lowest, Answer, lowest_is, lowest_some, lowest_none, none_passes, position_lowest}
use Rattle.pauli.specs.Texts.{is_sign, is_letter, fits_at}
use Rattle.pauli.proofs.LetterLaws.{both}
use Rattle.records.specs.Reading.{is_mark, byte_fits, first_bad}
use Rattle.read_rows.specs.Parts.Loading.{NoneWhere}
use Rattle.std.specs.List.{position}
use Rattle.read_rows.specs.Parts.Texts.{text_of}
use Rattle.read_rows.proofs.Texts.{row_inside, text_byte}

found : (f : ℕ → Bool) (n p : ℕ) → lowest f n ≡ Some p → Lowest f n p
found f n p e = subst (Answer f n) e (lowest_is f n)

-- a test of m places, and behind them of l places more
module _ (f g h : ℕ → Bool) (m l : ℕ) (front : (k : ℕ) → k < m → f k ≡ g k) (back : (k : ℕ) → k < l → f (m + k) ≡ h k) where
  pub in_front : (p : ℕ) → lowest g m ≡ Some p → lowest f (m + l) ≡ Some p
  in_front p e =
      let q = found g m p e in
      lowest_some f (m + l) p (record { below = omega (arith, q.below); passes = front p q.below ∙ q.passes; first = λ i v. front i (omega (arith, q.below)) ∙ q.first i v })

  module _ (none : (k : ℕ) → k < m → g k ≡ false) where
    none_before : (q : ℕ) → q ≤ l → ((k : ℕ) → k < q → h k ≡ false) → (k : ℕ) → k < m + q → f k ≡ false
    none_before q b c k v = go (dec_lt k m)
      where
        go : Dec (k < m) → f k ≡ false
        go (yes u) = front k u ∙ none k u
        go (no u) =
            let e : m + (k - m) ≡ k = omega arith in
            ap f (sym e) ∙ back (k - m) (omega arith) ∙ c (k - m) (omega arith)

    pub in_back : (q : ℕ) → lowest h l ≡ Some q → lowest f (m + l) ≡ Some (m + q)
    in_back q e =
        let r = found h l q e in
        lowest_some f (m + l) (m + q) (record { below = omega (arith, r.below); passes = back q r.below ∙ r.passes; first = none_before q (omega (arith, r.below)) r.first })

    pub in_neither : ((k : ℕ) → k < l → h k ≡ false) → lowest f (m + l) ≡ None
    in_neither c = lowest_none f (m + l) (none_before l (omega arith) c)

-- a byte of a row is not one listed for its place, and one of the rows
abbrev pub bad_in_row : List ℕ → ℕ → Bool
bad_in_row s k = not (fits_at k (get_or s k 0))

abbrev pub bad_in_rows : List ℕ → ℕ → ℕ → Bool
bad_in_rows s n k = not (fits_at (k % (n + 1)) (get_or s k 0))

-- ---- one row

module _ (row : List ℕ) (sign : ℕ) (letters : List ℕ) (is : row ≡ sign ∷ letters) where
  abbrev whole : ℕ → Bool
  whole = bad_in_row (sign ∷ letters)

  abbrev letter_bad : ℕ → Bool
  letter_bad k = not (is_letter (get_or letters k 0))

  behind : (k : ℕ) → whole (1 + k) ≡ letter_bad k
  behind k = ap whole (one-add k)

  same_size : 1 + length letters ≡ length (sign ∷ letters)
  same_size = one-add (length letters)

  -- what is said of the sign and the letters is said of the row
  of_row : (o : Option ℕ) → o ≡ lowest whole (length (sign ∷ letters)) → o ≡ lowest (bad_in_row row) (length row)
  of_row o h = h ∙ ap (λ (s : List ℕ). lowest (bad_in_row s) (length s)) (sym is)

  sign_good : is_sign sign ≡ true → (k : ℕ) → k < 1 → whole k ≡ false
  sign_good g zero h = ap not g
  sign_good g (suc k) h = absurd (omega arith)

  pub sign_stops : is_sign sign ≡ false → Some 0 ≡ lowest (bad_in_row row) (length row)
  sign_stops e = of_row _ (sym (lowest_some whole (length (sign ∷ letters)) 0 (record { below = omega arith; passes = ap not e; first = λ i h. absurd (omega arith) })))

  module _ (good : is_sign sign ≡ true) (o : Option ℕ) (looked : o ≡ position (λ b. not (is_letter b)) letters) where
    is_lowest : o ≡ lowest letter_bad (length letters)
    is_lowest = looked ∙ position_lowest (λ b. not (is_letter b)) letters

    pub letter_stops : (k : ℕ) → o ≡ Some k → Some (1 + k) ≡ lowest (bad_in_row row) (length row)
    letter_stops k e =
        of_row _ (sym (in_back whole whole letter_bad 1 (length letters) (λ j l. refl) (λ j l. behind j) (sign_good good) k (sym is_lowest ∙ e)) ∙ ap (lowest whole) same_size)

    pub none_stops : o ≡ None → None ≡ lowest (bad_in_row row) (length row)
    none_stops e =
        of_row _ (sym (in_neither whole whole letter_bad 1 (length letters) (λ j l. refl) (λ j l. behind j) (sign_good good) (none_passes letter_bad (length letters) (sym is_lowest ∙ e))) ∙ ap (lowest whole) same_size)

-- ---- row i, behind the rows before it

module _ (s : List ℕ) (n i : ℕ) where
  in_text : (k : ℕ) → k < n + 1 → bad_in_rows s n (i * (n + 1) + k) ≡ bad_in_row (text_of s n i) k
  in_text k h = rw (digits_mod i h, text_byte s n i k h)

  module _ (row : List ℕ) (is : row ≡ text_of s n i) (before : (k : ℕ) → k < i * (n + 1) → bad_in_rows s n k ≡ false) where
    here : (k : ℕ) → k < n + 1 → bad_in_rows s n (i * (n + 1) + k) ≡ bad_in_row row k
    here k h = in_text k h ∙ ap (λ (r : List ℕ). bad_in_row r k) (sym is)

    pub row_more : ((k : ℕ) → k < n + 1 → bad_in_row row k ≡ false) → (k : ℕ) → k < (i + 1) * (n + 1) → bad_in_rows s n k ≡ false
    row_more c k h = none_before (bad_in_rows s n) (bad_in_rows s n) (bad_in_row row) (i * (n + 1)) (n + 1) (λ j l. refl) here before (n + 1) (omega arith) c k (omega (arith, add-mul i 1 (n + 1)))

    pub row_stops : (k : ℕ) → i < n + n → length s ≡ 2 * (n * (n + 1)) → Some k ≡ lowest (bad_in_row row) (n + 1) → Some (i * (n + 1) + k) ≡ lowest (bad_in_rows s n) (length s)
    row_stops k h l e =
        let r = found (bad_in_row row) (n + 1) k (sym e) in
        sym (lowest_some (bad_in_rows s n) (length s) (i * (n + 1) + k) (record {
          below = omega (arith, row_inside n i h, r.below);
          passes = here k r.below ∙ r.passes;
          first = none_before (bad_in_rows s n) (bad_in_rows s n) (bad_in_row row) (i * (n + 1)) (n + 1) (λ j l. refl) here before k (omega (arith, r.below)) r.first;
        }))

pub rows_end : (n i k : ℕ) → n + n ≤ i → k < 2 * (n * (n + 1)) → k < i * (n + 1)
rows_end n i k h l = omega (arith, mul-le-mul_right (n + 1) h, add-mul n n (n + 1))

-- ---- the whole record

module _ (outcomes rows : List ℕ) (n : ℕ) (whole : length rows ≡ 2 * (n * (n + 1))) where
  abbrev count : ℕ
  count = length outcomes

  -- byte k of the record is not one listed for its place
  abbrev bad_at : ℕ → Bool
  bad_at k = not (byte_fits n count k (get_or (outcomes ++ rows) k 0))

  abbrev bad_mark : ℕ → Bool
  bad_mark k = not (is_mark (get_or outcomes k 0))

  in_marks : (k : ℕ) → k < count → bad_at k ≡ bad_mark k
  in_marks k h = rw (lt-ltb k count h, get_or-append outcomes rows 0 k h)

  in_rest : (k : ℕ) → k < length rows → bad_at (count + k) ≡ bad_in_rows rows n k
  in_rest k h =
      let e : count + k - count ≡ k = omega arith in
      rw (le-ltb (count + k) count (omega arith), get_or-append-add outcomes rows k 0, e)

  all : first_bad n count (outcomes ++ rows) ≡ lowest bad_at (count + length rows)
  unfolding first_bad
  all = ap (λ (m : ℕ). lowest bad_at (count + m)) (sym whole)

  module _ (o : Option ℕ) (looked : o ≡ position (λ b. not (is_mark b)) outcomes) where
    is_mark_lowest : o ≡ lowest bad_mark count
    is_mark_lowest = looked ∙ position_lowest (λ b. not (is_mark b)) outcomes

    pub mark_stops : (k : ℕ) → o ≡ Some k → Some k ≡ first_bad n count (outcomes ++ rows)
    mark_stops k e = sym (all ∙ in_front bad_at bad_mark (bad_in_rows rows n) count (length rows) in_marks in_rest k (sym is_mark_lowest ∙ e))

    module _ (none : o ≡ None) where
      marks_good : (k : ℕ) → k < count → bad_mark k ≡ false
      marks_good = none_passes bad_mark count (sym is_mark_lowest ∙ none)

      pub rest_stops : (k : ℕ) → Some k ≡ lowest (bad_in_rows rows n) (length rows) → Some (count + k) ≡ first_bad n count (outcomes ++ rows)
      rest_stops k e = sym (all ∙ in_back bad_at bad_mark (bad_in_rows rows n) count (length rows) in_marks in_rest marks_good k (sym e))

      pub nothing_stops : None ≡ lowest (bad_in_rows rows n) (length rows) → None ≡ first_bad n count (outcomes ++ rows)
      nothing_stops e = sym (all ∙ in_neither bad_at bad_mark (bad_in_rows rows n) count (length rows) in_marks in_rest marks_good (none_passes (bad_in_rows rows n) (length rows) (sym e)))

  -- a look that was true at each place
  pub looked_at : (a b : Bool) → NoneWhere a bad_mark count → NoneWhere b (bad_in_rows rows n) (length rows) → a && b ≡ true → None ≡ first_bad n count (outcomes ++ rows)
  looked_at a b f g e =
      let k = both a b e in
      sym (all ∙ in_neither bad_at bad_mark (bad_in_rows rows n) count (length rows) in_marks in_rest (f k.0) (g k.1))
