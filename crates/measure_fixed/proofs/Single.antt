-- A product of no factor, or of one: its sign; and a word with one bit. Assumes nothing.
use mathlib.Core.Path.{◌≡◌, refl, sym, ap, ◌∙◌}
use mathlib.Core.Bool.{false}
use Prim.Native.Nat.{ℕ, ◌+◌, ◌-◌, ◌/◌, ◌^◌, ◌≤◌, ◌<◌}
use native.Mathlib.Omega.{arith}
use lib.Bits.{bit_and, and_mask}
use lib.Count.{count_trailing_zeros}
use lib.Dec.{eqb}
use Rattle.std.proofs.lemmas.Bool.Decides.{nat_tests}
use borrow.Author.Tests.{ne_eqb}
use Rattle.pauli.specs.Rows.{Phased, minus_sign}
use Rattle.pauli.proofs.LetterLaws.{sign_back}
use Rattle.choices.proofs.Products.{product-cong, product-none, product-one}
use Rattle.clifford.specs.Tableau.{Rows}
use Rattle.clifford.specs.Measurement.{has_x, fixed_value}
use Rattle.words.specs.Bit.{bit}
use Rattle.words.proofs.BitLaws.{bit-pow, trailing_below}
use Rattle.measure_fixed.proofs.Shifts.{shr_at}

-- ---- rows: only that of place p is taken, if there is one

module _ (n a p : ℕ) (t : Rows) (only : (k : ℕ) → k < n → has_x a (t.destabilizer k) ≡ eqb k p) where
  pub no_factor : n ≤ p → fixed_value n a t ≡ false
  no_factor l = ap (λ (g : Phased). minus_sign g.phase) (product-none n t.stabilizer (λ i. has_x a (t.destabilizer i)) n (λ k h. only k h ∙ ne_eqb k p (λ q. omega arith)))

  pub one_factor : p < n → fixed_value n a t ≡ (t.stabilizer p).minus
  one_factor l =
      ap (λ (g : Phased). minus_sign g.phase) (product-cong n t.stabilizer t.stabilizer (λ i. has_x a (t.destabilizer i)) (λ i. eqb i p) n (λ i h. refl) only ∙ product-one n t.stabilizer p n l)
      ∙ sign_back (t.stabilizer p).minus

-- ---- words

-- the only bit of a word that is 1 when shifted down by its trailing zeros
pub lone : (w k : ℕ) → w / 2 ^ count_trailing_zeros 64 w ≡ 1 → bit k w ≡ eqb k (count_trailing_zeros 64 w)
lone w k e = grind (arith, nat_tests, trailing_below 64 w k, above)
  where
    above : count_trailing_zeros 64 w ≤ k → bit k w ≡ eqb (k - count_trailing_zeros 64 w) 0
    above h =
        let q : k ≡ count_trailing_zeros 64 w + (k - count_trailing_zeros 64 w) = omega arith in
        ap (λ (i : ℕ). bit i w) q ∙ sym (shr_at (k - count_trailing_zeros 64 w) (count_trailing_zeros 64 w) w) ∙ ap (bit (k - count_trailing_zeros 64 w)) e ∙ bit-pow (k - count_trailing_zeros 64 w) 0

-- `(w >> p) & 1 == 1`
pub bit_test : (p w : ℕ) → eqb (bit_and (w / 2 ^ p) 1) 1 ≡ bit p w
unfolding bit
bit_test p w = ap (λ (d : ℕ). eqb d 1) (and_mask (w / 2 ^ p) 1)
