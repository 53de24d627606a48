-- The lowest number that passes a test: how a place is found, and a row. Assumes nothing.
use Rattle.std.specs.Prelude.{Bool, cond, ℕ, zero, suc}
use Rattle.std.specs.Prelude.{Option, None, Some}

-- the lowest number below n that passes the test
abbrev pub lowest : (ℕ → Bool) → ℕ → Option ℕ
lowest f zero = None
lowest f (suc n) = elim (lowest f n) [ Some p ↦ Some p | None ↦ cond (f n) (Some n) None ]
