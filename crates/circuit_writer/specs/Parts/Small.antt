-- What the proofs about a written circuit text promise one another. Assumes nothing.
use Rattle.std.specs.Prelude.{◌<◌}
use Rattle.clifford.specs.declared.Gate.TheVariants.{One as one, Two as two}
use Rattle.clifford.specs.declared.Op.{Op}
use Rattle.clifford.specs.declared.Op.TheVariants.{Gate as apply, Measure as measure}

-- the qubits have at most three digits, so that they can be read
abbrev pub Small : Op → Type 0
Small (apply (one g a)) = a < 1000
Small (apply (two g a b)) = (a < 1000) × (b < 1000)
Small (measure f a) = a < 1000
