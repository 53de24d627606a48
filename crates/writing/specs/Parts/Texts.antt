-- The text of some rows. Assumes nothing.
use Rattle.std.specs.Prelude.{List, ℕ, ◌+◌}
use Rattle.pauli.specs.Texts.{listed, row_text}
use Rattle.packing.specs.View.{row_at}
use Rattle.records.specs.Record.{joined}

-- k rows of n letters from row s on, written
unfoldable pub texts_from : ℕ → List ℕ → ℕ → ℕ → List ℕ
texts_from n w s k = joined (listed (λ i. row_text n (row_at n w (s + i))) k)
