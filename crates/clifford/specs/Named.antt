-- The letters of the gates on one qubit: document 01, "The circuit text". Assumes nothing.
use Rattle.std.specs.Prelude.{ℕ}
use Rattle.clifford.specs.declared.One.{One}
use Rattle.clifford.specs.declared.One.TheVariants.{H, S, PauliX, PauliY, PauliZ}

abbrev pub one_letter : One → ℕ
one_letter H = 72
one_letter S = 83
one_letter PauliX = 88
one_letter PauliY = 89
one_letter PauliZ = 90
