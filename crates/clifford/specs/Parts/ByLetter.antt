-- The gate on one qubit that a byte names, for functions that choose by the letter. Assumes nothing.
use Rattle.std.specs.Prelude.{cond, ℕ, eqb}
use Rattle.clifford.specs.declared.One.{One}
use Rattle.clifford.specs.declared.One.TheVariants.{H, S, PauliX, PauliY, PauliZ}

-- H, S, X, Y and, for any other byte, Z
abbrev pub one_of : ℕ → One
one_of c = cond (eqb c 72) H (cond (eqb c 83) S (cond (eqb c 88) PauliX (cond (eqb c 89) PauliY PauliZ)))
