-- The rows of a group of four words. Assumes nothing.
use Rattle.std.specs.Prelude.{Bool, ℕ, ◌<◌}
use Rattle.packing.specs.View.{row_count, bit_in}
use Rattle.packing.specs.Parts.Changes.{four}
use Rattle.groups.specs.declared.Group.{Group}

-- the four words by their number, and the bit of row s in them
abbrev pub words_of : Group → ℕ → ℕ
words_of g = four g.a g.b g.c g.d

abbrev pub row_bit : Group → ℕ → Bool
row_bit g s = bit_in (words_of g) s

-- what holds of every row
abbrev pub All : (ℕ → Type 0) → Type 0
All P = (s : ℕ) → s < row_count → P s
