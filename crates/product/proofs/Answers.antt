-- What the row product's definition gives in each case that the code tells apart. Assumes nothing.
use mathlib.Core.Path.{◌≡◌, sym, ◌∙◌, ap}
use mathlib.Core.Bool.{Bool, false, not}
use mathlib.Core.List.{List}
use Prim.Native.Nat.{ℕ, ◌+◌, ◌-◌, ◌%◌, ◌≤◌, ◌<◌}
use native.Mathlib.Omega.{arith}
use lib.Dec.{eqb}
use Rattle.std.proofs.lemmas.Bool.Decides.{nat_tests}
use lib.ListN.{length, get_or}
use borrow.Author.Tests.{eq-eqb, ne_eqb}
use Rattle.answers.specs.Verdict.{Verdict, accepted, refused, unless, unless_at}
use Rattle.answers.proofs.First.{Lowest, lowest_is, lowest_some, lowest_none, none_passes}
use Rattle.answers.specs.First.{lowest}
use Rattle.std.specs.Prelude.{None, Some}
use Rattle.pauli.specs.Rows.{phased, product, anticommute, minus_sign, times_row}
use Rattle.pauli.specs.Texts.{fits_at, spelled, row_text}
use Rattle.pauli.proofs.RowLaws.{product-even}
use Rattle.product.specs.Product.{longest_row, listed_at, first_bad_of_two, multiplied, product_of}
use Rattle.product.specs.Parts.Table.{power_number, first_unlisted, letter_text}
use Rattle.product.proofs.Laws.{number_odd, number_sign}

-- what a search finds is the lowest
found : (f : ℕ → Bool) (n p : ℕ) → Some p ≡ lowest f n → Lowest f n p
found f n p e = rw (← e) at (lowest_is f n)

module _ (first second : List ℕ) where
  module _ (sizes : (length first ≡ length second) × (2 ≤ length first) × (length first ≤ longest_row)) where
    fit : product_of first second ≡ (unless_at 10 (first_bad_of_two first second) (multiplied (length first - 1) first second))
    fit = grind (arith, nat_tests)

    at_first : (k : ℕ) → k < length first → listed_at first second k ≡ fits_at k (get_or first k 0)
    at_first k h = grind (arith, nat_tests)

    at_second : (k : ℕ) → listed_at first second (length first + k) ≡ fits_at k (get_or second k 0)
    at_second k = let e : length first + k - length first ≡ k = omega arith in grind (arith, nat_tests)

    -- the first row is good, and the second below m
    either : None ≡ first_unlisted first → (m : ℕ) → ((i : ℕ) → i < m → not (fits_at i (get_or second i 0)) ≡ false) → (i : ℕ) → i < length first + m → not (listed_at first second i) ≡ false
    either a m b i l = grind (arith, nat_tests, none_passes (λ k. not (fits_at k (get_or first k 0))) (length first) (sym a) i, b (i - length first))

    -- 10, in the first row
    pub first_10 : (k : ℕ) → Some k ≡ first_unlisted first → product_of first second ≡ refused 10 k
    first_10 k a =
        let l = found _ (length first) k a in
        fit ∙ ap (λ o. unless_at 10 o (multiplied (length first - 1) first second))
        (lowest_some (λ i. not (listed_at first second i)) (length first + length second) k (record {
          below = omega (arith, l.below);
          passes = ap not (at_first k l.below) ∙ l.passes;
          first = λ i h. ap not (at_first i (omega (arith, l.below))) ∙ l.first i h;
        }))

    -- 10, in the second
    pub second_10 : (m : ℕ) → None ≡ first_unlisted first → Some m ≡ first_unlisted second → product_of first second ≡ refused 10 (length first + m)
    second_10 m a b =
        let l = found _ (length second) m b in
        fit ∙ ap (λ o. unless_at 10 o (multiplied (length first - 1) first second))
        (lowest_some (λ i. not (listed_at first second i)) (length first + length second) (length first + m) (record {
          below = omega (arith, l.below);
          passes = ap not (at_second m) ∙ l.passes;
          first = either a m l.first;
        }))

    module _ (a : None ≡ first_unlisted first) (b : None ≡ first_unlisted second) where
      listed : product_of first second ≡ multiplied (length first - 1) first second
      listed = fit ∙ ap (λ o. unless_at 10 o (multiplied (length first - 1) first second))
          (lowest_none (λ i. not (listed_at first second i)) (length first + length second) (either a (length second) (none_passes _ (length second) (sym b))))

      abbrev answer : Verdict (List ℕ)
      answer = accepted (row_text (length first - 1) (times_row (length first - 1) (spelled first) (spelled second)))

      module _ (sum : ℕ) (is : sum % 4 ≡ power_number (product (length first - 1) (phased (spelled first)) (phased (spelled second))).phase) where
        anti : anticommute (length first - 1) (spelled first).letters (spelled second).letters ≡ eqb (sum % 2) 1
        anti =
            let phase = (product (length first - 1) (phased (spelled first)) (phased (spelled second))).phase in
            let e : sum % 2 ≡ power_number phase % 2 = omega (arith, is) in
            sym (product-even (length first - 1) (spelled first) (spelled second)) ∙ sym (number_odd phase) ∙ ap (λ (n : ℕ). eqb n 1) (sym e)

        -- 12
        pub odd_12 : sum % 2 ≡ 1 → product_of first second ≡ refused 12 0
        odd_12 h = listed ∙ ap (λ c. unless (not c) 12 0 answer) (anti ∙ eq-eqb (sum % 2) 1 h)

        -- the product
        pub even_product : (sum % 2 ≡ 1 → ⊥) → product_of first second ≡ accepted (letter_text first second (eqb (sum % 4) 2))
        even_product h =
            let phase = (product (length first - 1) (phased (spelled first)) (phased (spelled second))).phase in
            let c : anticommute (length first - 1) (spelled first).letters (spelled second).letters ≡ false = anti ∙ ne_eqb (sum % 2) 1 h in
            let s : eqb (sum % 4) 2 ≡ minus_sign phase = ap (λ (n : ℕ). eqb n 2) is ∙ number_sign phase (product-even (length first - 1) (spelled first) (spelled second) ∙ c) in
            listed ∙ ap (λ d. unless (not d) 12 0 answer) c ∙ ap (λ d. accepted (letter_text first second d)) (sym s)
