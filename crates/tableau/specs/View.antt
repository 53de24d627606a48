-- The rows of a tableau by value. Assumes nothing.
use Rattle.clifford.specs.Tableau.{Rows}
use Rattle.packing.specs.View.{rows_of}
use Rattle.tableau.specs.declared.Tableau.{Tableau}

-- the destabilizers and the stabilizers
abbrev pub rows : Tableau → Rows
rows t = rows_of t.packed.qubits t.packed.words
