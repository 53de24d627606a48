-- What a record holds: listed outcome characters, not too many, and rows that are clean and properly paired. Assumes nothing.
use mathlib.Core.Path.{◌≡◌}
use mathlib.Core.List.{List}
use Prim.Native.Nat.{ℕ, ◌≤◌}
use lib.ListN.{length}
use Rattle.limits.specs.Limits.{most_operations, most_qubits}
use Rattle.pauli.specs.Letters.{I}
use Rattle.pauli.specs.Rows.{Row}
use Rattle.clifford.specs.Tableau.{Rows, blank, Paired}
use Rattle.records.proofs.Outcomes.{Marks}

-- the letters of each row are I from n on, and the rows from n on are blank
pub record Tidy (n : ℕ) (f : ℕ → Row) : Type 0 where
  pub letters : (i j : ℕ) → n ≤ j → (f i).letters j ≡ I
  pub blanks : (i : ℕ) → n ≤ i → f i ≡ blank

pub record Clean (n : ℕ) (t : Rows) : Type 0 where
  pub destabilizers : Tidy n t.destabilizer
  pub stabilizers : Tidy n t.stabilizer

pub record Held (n : ℕ) (marks : List ℕ) (t : Rows) : Type 0 where
  pub least : 1 ≤ n
  pub most : n ≤ most_qubits
  pub few : length marks ≤ most_operations
  pub marked : Marks marks
  pub paired : Paired n t
  pub clean : Clean n t
