-- A record whose signs would make minus the identity a product: +ZI and -ZI as its stabilizers, computed. Assumes nothing.
use mathlib.Core.Path.{◌≡◌, refl}
use mathlib.Core.Bool.{true}
use mathlib.Core.List.{List, [], ◌∷◌, ◌++◌}
use Prim.Native.Nat.{ℕ, zero, suc, ◌<◌}
use native.Mathlib.Omega.{arith}
use Rattle.answers.specs.Verdict.{refused}
use Rattle.pauli.specs.Letters.{I}
use Rattle.choices.specs.Choices.{chosen_product}
use Rattle.clifford.specs.Generators.{tableau_of, OfStabilizers, minus_identity}
use Rattle.records.specs.Record.{low_first, trailer}
use Rattle.records.specs.Reading.{number_in, last_record, qubits_in, first_bad, row_in, record_row, rows_in, first_wrong, read_of}

-- no outcome, +XI and +IX as destabilizers, and the trailer of two qubits
abbrev plus_and_minus_z : List ℕ
plus_and_minus_z = (43 ∷ 88 ∷ 73 ∷ []) ++ (43 ∷ 73 ∷ 88 ∷ []) ++ (43 ∷ 90 ∷ 73 ∷ []) ++ (45 ∷ 90 ∷ 73 ∷ []) ++ trailer 2 0

-- their product is minus the identity
pub plus_and_minus_product : OfStabilizers (qubits_in plus_and_minus_z) (record_row plus_and_minus_z) minus_identity
unfolding low_first trailer number_in last_record row_in
plus_and_minus_product = record { choice = λ i. true; letters = at; power = refl }
  where
    at : (b : ℕ) → b < 2 → (chosen_product 2 (tableau_of 2 (record_row plus_and_minus_z)).stabilizer (λ i. true) 2).letters b ≡ I
    at zero h = refl
    at (suc zero) h = refl
    at (suc (suc b)) h = absurd (omega arith)

-- and the reader refuses them: destabilizer 0 anticommutes with stabilizer 1, which is not its partner
pub plus_and_minus_refused : read_of plus_and_minus_z ≡ refused 11 0
unfolding low_first trailer number_in last_record first_bad row_in rows_in first_wrong read_of
plus_and_minus_refused = refl
