-- Bytes cut into parts of one width, each closed by byte 10: how rows that stand end to end are printed. Assumes nothing.
use Rattle.std.specs.Prelude.{List, [], ◌∷◌, ◌++◌, ℕ, ◌*◌, take, drop}
use Rattle.circuit.specs.Lines.{end_byte}
use Rattle.pauli.specs.Texts.{listed}
use Rattle.records.specs.Record.{joined}

-- the first k parts
unfoldable pub parts_closed : ℕ → List ℕ → ℕ → List ℕ
parts_closed width bytes k = joined (listed (λ i. take width (drop (i * width) bytes) ++ (end_byte ∷ [])) k)
