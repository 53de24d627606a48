-- The bits of a word, as Bools. Assumes nothing.
use Rattle.std.specs.Prelude.{Bool, ℕ, ◌/◌, ◌%◌, ◌^◌, eqb}

-- bit k of w: the digit of 2 ^ k is 1
unfoldable pub bit : ℕ → ℕ → Bool
bit k w = eqb (w / 2 ^ k % 2) 1
