-- Words that tell which packed rows anticommute with each row of a record, and the first wrong pair. Assumes nothing.
use mathlib.Core.Path.{◌≡◌, refl, sym, ◌∙◌, ap, ap₂}
use mathlib.Core.Bool.{Bool, true, false}
use mathlib.Core.List.{List}
use Rattle.std.specs.Prelude.{Option, None, Some}
use Prim.Native.Nat.{ℕ, ◌+◌, ◌-◌, ◌%◌, ◌≤◌, ◌<◌}
use native.Mathlib.Decide.{dec_lt}
use native.Mathlib.Omega.{arith}
use lib.Dec.{eqb}
use borrow.Author.Tests.{lt-ltb, le-ltb, ne_eqb}
use Rattle.limits.specs.Limits.{most_qubits}
use Rattle.answers.specs.First.{lowest}
use Rattle.answers.proofs.First.{Answer, lowest_is, lowest_some, lowest_none}
use Rattle.pauli.specs.Letters.{◌⊕◌, differ}
use Rattle.pauli.specs.Rows.{Row, Letters, anticommute}
use Rattle.pauli.proofs.LetterLaws.{xor_adds, differ-none}
use Rattle.pauli.proofs.RowLaws.{anticommute-self, anticommute-swap}
use Rattle.pauli.proofs.Sums.{sum-cong, sum-zero}
use Rattle.packing.specs.View.{row_count, letter_at, rows_of, Holds}
use Rattle.packing.proofs.Determined.{row_letter}
use Rattle.packing.proofs.Views.{rows_in}
use Rattle.std.specs.Prelude.{is_some}
use Rattle.records.specs.Reading.{wrong_pair, first_wrong}
use Rattle.clifford.specs.Tableau.{numbered}
use Rattle.clifford.proofs.Partners.{numbered_low, numbered_high}
use Rattle.records.proofs.Pairs.{xor_same, same_xor}
use Rattle.read_rows.specs.Parts.Loading.{column_of, in_record, Loaded}
use Rattle.column_sums.specs.Parts.Sums.{told_at, Against}
use Rattle.groups.specs.declared.Group.{Group}
use Rattle.pairing.specs.Parts.Partners.{partner, Right, Rights}
use Rattle.pairing.proofs.Numbers.{number, number_low, number_high, number_row, partner_row, numbered_row, in_order, own_partner, partners_swap, upper_partner}

same_letters : (n : ℕ) (a b c d : Letters) → ((q : ℕ) → q < n → a q ≡ c q) → ((q : ℕ) → q < n → b q ≡ d q) → anticommute n a b ≡ anticommute n c d
same_letters n a b c d e f = sum-cong xor_adds _ _ n (λ q l. ap₂ differ (e q l) (f q l))

module _ (n : ℕ) (w : List ℕ) (most : n ≤ most_qubits) (held : Holds n w) where
  -- two packed rows anticommute
  abbrev cross : ℕ → ℕ → Bool
  cross s t = anticommute n (letter_at w s) (letter_at w t)

  numbered_letter : (i q : ℕ) → i < n + n → q < n → (numbered n (rows_of n w) i).letters q ≡ letter_at w (number n i) q
  numbered_letter i q h l = go (dec_lt i n)
    where
      go : Dec (i < n) → (numbered n (rows_of n w) i).letters q ≡ letter_at w (number n i) q
      go (yes m) =
          let z : 0 + i ≡ number n i = omega (arith, number_low n i m) in
          ap (λ (r : Row). r.letters q) (numbered_low n (rows_of n w) i m ∙ rows_in n 0 w i m) ∙ row_letter n w (0 + i) q l ∙ ap (λ (k : ℕ). letter_at w k q) z
      go (no m) =
          let e : i ≡ n + (i - n) = omega arith in
          ap (λ (k : ℕ). (numbered n (rows_of n w) k).letters q) e
          ∙ ap (λ (r : Row). r.letters q) (numbered_high n (rows_of n w) (i - n) ∙ rows_in n most_qubits w (i - n) (omega arith)) ∙ row_letter n w (most_qubits + (i - n)) q l
          ∙ ap (λ (k : ℕ). letter_at w k q) (sym (number_high n i (omega arith)))

  below : (i j : ℕ) → j ≤ i → wrong_pair n (rows_of n w) i j ≡ false
  below i j h = rw (le-ltb i j h)

  pair : (i j : ℕ) → i < j → j < n + n → wrong_pair n (rows_of n w) i j ≡ cross (number n i) (number n j) ⊕ eqb (number n j) (partner n i)
  pair i j h l = rw (lt-ltb i j h) (ap₂ ◌⊕◌ (same_letters n _ _ _ _ (λ q m. numbered_letter i q (omega arith) m) (λ q m. numbered_letter j q l m)) (sym (upper_partner n most i j h l)))

  no_row : (s t : ℕ) → t < row_count → n ≤ t % most_qubits → cross s t ≡ false
  no_row s t h m = sum-cong xor_adds _ _ n (λ q u. ap (differ (letter_at w s q)) (sym (row_letter n w t q u) ∙ ap (λ (r : Row). r.letters q) (held.rows t h m)) ∙ differ-none (letter_at w s q)) ∙ sum-zero xor_adds n

  module _ (found : List Group) (told : (i s : ℕ) → i < n + n → s < row_count → told_at found i s ≡ cross (number n i) s) where
    abbrev lower_wrong : ℕ → Bool
    lower_wrong i = is_some (lowest (wrong_pair n (rows_of n w) i) (n + n))

    -- a row that is right is the lower row of no wrong pair
    right_pairs : (i : ℕ) → i < n + n → Right found n i → (j : ℕ) → j < n + n → wrong_pair n (rows_of n w) i j ≡ false
    right_pairs i h r j l = go (dec_lt i j)
      where
        go : Dec (i < j) → wrong_pair n (rows_of n w) i j ≡ false
        go (no u) = below i j (omega arith)
        go (yes u) =
            let m = (number_row n most j l).0 in
            pair i j u l ∙ xor_same _ _ (sym (told i (number n j) h m) ∙ r (number n j) m)

    -- a row that is the lower row of none is right, where those before it are
    pairs_right : (i : ℕ) → i < n + n → ((k : ℕ) → k < i → Right found n k) → ((j : ℕ) → j < n + n → wrong_pair n (rows_of n w) i j ≡ false) → Right found n i
    pairs_right i h before clear s l = told i s h l ∙ go (dec_lt (s % most_qubits) n)
      where
        with : (j : ℕ) → j < n + n → Dec (i < j) → Dec (j < i) → cross (number n i) (number n j) ≡ eqb (number n j) (partner n i)
        with j m (yes u) v = same_xor _ _ (sym (pair i j u m) ∙ clear j m)
        with j m (no u) (yes v) =
            let k = (number_row n most i h).0 in
            anticommute-swap n (letter_at w (number n i)) (letter_at w (number n j)) ∙ sym (told j (number n i) m k) ∙ before j v (number n i) k ∙ partners_swap n most i j h m
        with j m (no u) (no v) =
            let e : j ≡ i = omega arith in
            ap (λ (k : ℕ). cross (number n i) (number n k)) e ∙ anticommute-self n (letter_at w (number n i)) ∙ sym (own_partner n most i) ∙ ap (λ (k : ℕ). eqb (number n k) (partner n i)) (sym e)

        go : Dec (s % most_qubits < n) → cross (number n i) s ≡ eqb s (partner n i)
        go (yes m) =
            let j = in_record n s in
            let f = numbered_row n most s l m in
            ap (cross (number n i)) (sym f.1) ∙ with j f.0 (dec_lt i j) (dec_lt j i) ∙ ap (λ (k : ℕ). eqb k (partner n i)) f.1
        go (no m) = no_row (number n i) s l (omega arith) ∙ sym (ne_eqb s (partner n i) (λ e. other (ap (λ (k : ℕ). k % most_qubits) e)))
          where
            other : s % most_qubits ≡ partner n i % most_qubits → ⊥
            other e = let p = partner_row n most i h in absurd (omega arith)

    pub judged : (o : Option ℕ) → Rights found n o → o ≡ first_wrong n (rows_of n w)
    unfolding first_wrong
    judged None r = sym (lowest_none lower_wrong (n + n) (λ k l. ap is_some (lowest_none _ (n + n) (right_pairs k l (r k l)))))
    judged (Some p) r = sym (lowest_some lower_wrong (n + n) p (record {
      below = r.0;
      passes = go (lowest (wrong_pair n (rows_of n w) p) (n + n)) (lowest_is (wrong_pair n (rows_of n w) p) (n + n));
      first = λ k l. ap is_some (lowest_none _ (n + n) (right_pairs k (omega arith) (r.1 k l)));
    }))
      where
        go : (o : Option ℕ) → Answer (wrong_pair n (rows_of n w) p) (n + n) o → is_some o ≡ true
        go (Some j) k = refl
        go None k = absurd (r.2 (pairs_right p r.0 r.1 k))

-- the rows that a record spells are the packed rows, by their numbers
module _ (s : List ℕ) (n : ℕ) (w : List ℕ) (most : n ≤ most_qubits) (loaded : Loaded s n w) where
  spelled_letter : (i q : ℕ) → i < n + n → q < n → column_of s n q i ≡ letter_at w (number n i) q
  spelled_letter i q h l =
      let k = number n i in
      let m = number_row n most i h in
      sym (sym (row_letter n w k q l) ∙ ap (λ (r : Row). r.letters q) (loaded.rows k m.0 m.1) ∙ ap (column_of s n q) (in_order n most i h))

  pub spelled_against : (found : List Group) → Against s n w (n + n) found → (i t : ℕ) → i < n + n → t < row_count → told_at found i t ≡ anticommute n (letter_at w (number n i)) (letter_at w t)
  spelled_against found a i t h l = a.bits i t h l ∙ same_letters n _ _ _ _ (λ q m. spelled_letter i q h m) (λ q m. refl)
