-- Wrong readings of "fixed" and of "product", shut out by tableaux that are computed: rows that are not properly paired, a product that is no row, and a product
-- of rows that are no stabilizers. Assumes nothing.
use mathlib.Core.Path.{◌≡◌, refl}
use mathlib.Core.Bool.{Bool, true, false, cond}
use Rattle.std.specs.Prelude.{Some}
use Prim.Native.Nat.{ℕ, zero, suc, ◌+◌, ◌<◌}
use native.Mathlib.Omega.{arith}
use lib.Dec.{eqb, ltb}
use Rattle.pauli.specs.Letters.{I, X, Y, Z}
use Rattle.pauli.specs.Rows.{anticommute}
use Rattle.choices.specs.Order.{Commuting}
use Rattle.choices.specs.Choices.{Choice, chosen_product, ProductOf}
use Rattle.clifford.specs.declared.One.TheVariants.{H}
use Rattle.clifford.specs.declared.Two.TheVariants.{Cx}
use Rattle.clifford.specs.declared.Gate.TheVariants.{One as one, Two as two}
use Rattle.clifford.specs.Tableau.{Rows, Paired, numbered, alone, start, gated}
use Rattle.clifford.specs.Measurement.{random_row, settled}
use Rattle.clifford.specs.Generators.{OfStabilizers, minus_identity, Generators, FixedAt}
use Rattle.clifford.proofs.Fixed.{paired_generators}

-- two qubits: what holds of both
on_two : (P : ℕ → Type 0) → P 0 → P 1 → (b : ℕ) → b < 2 → P b
on_two P p q zero h = p
on_two P p q (suc zero) h = q
on_two P p q (suc (suc b)) h = absurd (omega arith)

-- two stabilizers with the same letters, the second with this sign
abbrev twice_z : Bool → Rows
twice_z m = record { destabilizer = (start 2).destabilizer; stabilizer = λ i. settled 0 (cond (eqb i 0) false m) }

abbrev stabilizers_in : Choice
stabilizers_in = λ i. ltb 1 i

-- dependent stabilizers: statement 1 fails of +ZI and +ZI, which are not properly paired
pub dependent_fails : Generators 2 (numbered 2 (twice_z false)) → ⊥
dependent_fails g = g.independent stabilizers_in 2 (omega arith) refl (on_two (λ b. (chosen_product 2 (numbered 2 (twice_z false)) stabilizers_in 4).letters b ≡ I) refl refl)

pub dependent_unpaired : Paired 2 (twice_z false) → ⊥
dependent_unpaired p = dependent_fails (paired_generators 2 (twice_z false) p)

-- signs against one another: minus the identity is the product of +ZI and -ZI, which are not properly paired either
pub minus_made : OfStabilizers 2 (numbered 2 (twice_z true)) minus_identity
minus_made = record { choice = λ i. true; letters = on_two (λ b. (chosen_product 2 (λ i. numbered 2 (twice_z true) (2 + i)) (λ i. true) 2).letters b ≡ I) refl refl; power = refl }

pub minus_unpaired : Paired 2 (twice_z true) → ⊥
minus_unpaired p = (paired_generators 2 (twice_z true) p).no_minus minus_made

-- and plus signs on rows that commute are not enough: the product of +XXI, +ZZI and +YYI is minus the identity, by its powers of i
abbrev three_pairs : Rows
three_pairs = record { destabilizer = (start 3).destabilizer; stabilizer = λ i. record { minus = false; letters = λ j. cond (ltb j 2) (cond (eqb i 0) X (cond (eqb i 1) Z Y)) I } }

on_three : (P : ℕ → Type 0) → P 0 → P 1 → P 2 → (b : ℕ) → b < 3 → P b
on_three P p q r zero h = p
on_three P p q r (suc zero) h = q
on_three P p q r (suc (suc zero)) h = r
on_three P p q r (suc (suc (suc b))) h = absurd (omega arith)

pub plus_commute : Commuting 3 three_pairs.stabilizer 3
plus_commute i j hi hj =
    on_three (λ i. (j : ℕ) → j < 3 → with_row i j ≡ false) (on_three (λ j. with_row 0 j ≡ false) refl refl refl) (on_three (λ j. with_row 1 j ≡ false) refl refl refl) (on_three (λ j. with_row 2 j ≡ false) refl refl refl) i hi j hj
  where
    with_row : ℕ → ℕ → Bool
    with_row i j = anticommute 3 (three_pairs.stabilizer i).letters (three_pairs.stabilizer j).letters

pub plus_made : OfStabilizers 3 (numbered 3 three_pairs) minus_identity
plus_made = record { choice = λ i. true; letters = on_three (λ b. (chosen_product 3 (λ i. numbered 3 three_pairs (3 + i)) (λ i. true) 3).letters b ≡ I) refl refl refl; power = refl }

pub plus_unpaired : Paired 3 three_pairs → ⊥
plus_unpaired p = (paired_generators 3 three_pairs p).no_minus plus_made

-- "fixed" does not say that Z there is a row: after CX the stabilizers are +ZI and +ZZ, and qubit 1 is fixed at 0
abbrev after_cx : Rows
after_cx = gated (two Cx 0 1) (start 2)

pub fixed_no_row : FixedAt 2 1 after_cx false × ((i : ℕ) → i < 2 → (after_cx.stabilizer i).letters 0 ≡ Z)
fixed_no_row = (record { fixed = refl; is = refl }, on_two (λ i. (after_cx.stabilizer i).letters 0 ≡ Z) refl refl)

-- a product of the 2n rows need not be one of stabilizers: after H plus Z is row 0, and the measurement is random
abbrev after_h : Rows
after_h = gated (one H 0) (start 1)

pub product-not_fixed : ProductOf 1 (numbered 1 after_h) 2 (settled 0 false) × (random_row 1 0 after_h ≡ Some 0)
product-not_fixed = (record { choice = λ i. eqb i 0; letters = at; power = refl }, refl)
  where
    at : (b : ℕ) → b < 1 → (chosen_product 1 (numbered 1 after_h) (λ i. eqb i 0) 2).letters b ≡ alone Z 0 b
    at zero h = refl
    at (suc b) h = absurd (omega arith)
