-- The partner of a row by its number, and where the groups that tell which rows anticommute say so of partners alone. Assumes nothing.
use Rattle.std.specs.Prelude.{cond, List, ◌≡◌, ℕ, ◌+◌, ◌-◌, ◌<◌, eqb, ltb, Option, Some, None}
use Rattle.limits.specs.Limits.{most_qubits}
use Rattle.packing.specs.View.{row_count}
use Rattle.groups.specs.declared.Group.{Group}
use Rattle.column_sums.specs.Parts.Sums.{told_at}

-- the number that the partner of row i of the 2n has among the packed rows
abbrev pub partner : ℕ → ℕ → ℕ
partner n i = cond (ltb i n) (most_qubits + i) (i - n)

-- of a group for each row, that of row i tells of its partner alone
abbrev pub Right : List Group → ℕ → ℕ → Type 0
Right found n i = (s : ℕ) → s < row_count → told_at found i s ≡ eqb s (partner n i)

-- the first of the 2n of which they do not, if there is one
abbrev pub Rights : List Group → ℕ → Option ℕ → Type 0
Rights found n (Some p) = (p < n + n) × ((i : ℕ) → i < p → Right found n i) × (Right found n p → ⊥)
Rights found n None = (i : ℕ) → i < n + n → Right found n i
