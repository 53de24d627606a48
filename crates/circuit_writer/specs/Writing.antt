-- The text of a circuit. Document 01, "The circuit text". Assumes nothing.
use Rattle.std.specs.Prelude.{List, [], ◌∷◌, ◌++◌, ℕ}
use Rattle.clifford.specs.declared.Two.{Two}
use Rattle.clifford.specs.declared.Two.TheVariants.{Cx, Cz}
use Rattle.clifford.specs.declared.Gate.TheVariants.{One as one, Two as two}
use Rattle.clifford.specs.declared.After.TheVariants.{Keep, Reset}
use Rattle.clifford.specs.declared.Op.{Op}
use Rattle.clifford.specs.declared.Op.TheVariants.{Gate as apply, Measure as measure}
use Rattle.clifford.specs.Named.{one_letter}
use Rattle.circuit.specs.Lines.{space, end_byte}
use Rattle.circuit.specs.Text.{Circuit}
use Rattle.lines.specs.Decimal.{decimal}

-- the letter after C
abbrev pub two_letter : Two → ℕ
two_letter Cx = 88
two_letter Cz = 90

abbrev pub name_text : Op → List ℕ
name_text (apply (one g a)) = one_letter g ∷ []
name_text (apply (two g a b)) = 67 ∷ two_letter g ∷ []
name_text (measure Keep a) = 77 ∷ []
name_text (measure Reset a) = 77 ∷ 82 ∷ []

abbrev pub qubit_text : ℕ → List ℕ
qubit_text a = space ∷ decimal a

abbrev pub qubits_text : Op → List ℕ
qubits_text (apply (one g a)) = qubit_text a
qubits_text (apply (two g a b)) = qubit_text a ++ qubit_text b
qubits_text (measure f a) = qubit_text a

abbrev pub line_text : Op → List ℕ
line_text op = name_text op ++ qubits_text op ++ end_byte ∷ []

abbrev pub header_text : ℕ → List ℕ
header_text n = 81 ∷ qubit_text n ++ end_byte ∷ []

abbrev pub lines_text : List Op → List ℕ
lines_text [] = []
lines_text (op ∷ ops) = line_text op ++ lines_text ops

abbrev pub circuit_text : Circuit → List ℕ
circuit_text c = header_text c.qubits ++ lines_text c.ops
