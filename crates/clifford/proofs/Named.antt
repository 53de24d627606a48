-- The letters of the gates on one qubit: each names its gate, and is a byte. Assumes nothing.
use mathlib.Core.Path.{◌≡◌, refl}
use Prim.Native.Nat.{◌<◌}
use native.Mathlib.Omega.{arith}
use Rattle.clifford.specs.declared.One.{One}
use Rattle.clifford.specs.declared.One.TheVariants.{H, S, PauliX, PauliY, PauliZ}
use Rattle.clifford.specs.Named.{one_letter}
use Rattle.clifford.specs.Parts.ByLetter.{one_of}

pub letter_names : (k : One) → one_of (one_letter k) ≡ k
letter_names H = refl
letter_names S = refl
letter_names PauliX = refl
letter_names PauliY = refl
letter_names PauliZ = refl

pub letter_below : (k : One) → one_letter k < 256
letter_below H = omega arith
letter_below S = omega arith
letter_below PauliX = omega arith
letter_below PauliY = omega arith
letter_below PauliZ = omega arith
