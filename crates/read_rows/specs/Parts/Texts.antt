-- The text of a row among the texts of all rows. Assumes nothing.
use Rattle.std.specs.Prelude.{List, ℕ, ◌+◌, ◌*◌, take, drop}

-- of rows of n letters, row behind row, the text of row i
abbrev pub text_of : List ℕ → ℕ → ℕ → List ℕ
text_of s n i = take (n + 1) (drop (i * (n + 1)) s)
