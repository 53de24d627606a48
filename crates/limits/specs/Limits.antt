-- The limits of document 01, "The circuit text", and of requests h and i of document 02, each in one place. Assumes nothing.
use Rattle.std.specs.Prelude.{ℕ}

-- n is 1 to 128
abbrev pub most_qubits : ℕ
most_qubits = 128

-- at most 4,096 operations, so at most as many outcomes
abbrev pub most_operations : ℕ
most_operations = 4096

-- 14 when k exceeds 1,022
abbrev pub most_halvings : ℕ
most_halvings = 1022
