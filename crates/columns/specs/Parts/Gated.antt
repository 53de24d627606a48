-- What a gate does to the rows that the words hold. Assumes nothing.
use Rattle.std.specs.Prelude.{List, ◌≡◌, ℕ, ◌≤◌}
use Rattle.limits.specs.Limits.{most_qubits}
use Rattle.clifford.specs.declared.Gate.{Gate}
use Rattle.clifford.specs.Gates.{Fits}
use Rattle.clifford.specs.Tableau.{gated}
use Rattle.packing.specs.View.{Words, rows_of, Holds}

-- of the words old come new: of n qubits that the gate fits, the rows of new are the gate's image of the rows of old, and nothing is set
-- from row n or qubit n on if nothing was
pub record Gated (g : Gate) (old new : List ℕ) : Type 0 where
  pub words : Words new
  pub rows : (n : ℕ) → n ≤ most_qubits → Fits n g → rows_of n new ≡ gated g (rows_of n old)
  pub holds : (n : ℕ) → n ≤ most_qubits → Fits n g → Holds n old → Holds n new
