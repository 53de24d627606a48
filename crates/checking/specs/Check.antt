-- What a check of a circuit text answers: n and the number of operations, or one of the refusals 1 to 6. Document 01, "Numbered refusals". Assumes nothing.
use Rattle.std.specs.Prelude.{List, ℕ, length}
use Rattle.answers.specs.Verdict.{Verdict, accepted, then}
use Rattle.checking.specs.declared.Size.{Size}
use Rattle.circuit.specs.Text.{meaning}

-- accepted, a check answers n and the number of operations
abbrev pub check_of : List ℕ → Verdict Size
check_of s = then (meaning s) (λ c. accepted (record { qubits = c.qubits; operations = length c.ops }))
