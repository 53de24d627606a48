-- The digits of a number below 1000: one, two or three. Assumes nothing.
use mathlib.Core.List.{[], ◌∷◌}
use mathlib.Core.Path.{◌≡◌}
use Prim.Native.Nat.{ℕ, ◌+◌, ◌/◌, ◌%◌, ◌≤◌, ◌<◌}
use native.Mathlib.Omega.{arith}
use borrow.Author.Tests.{lt-ltb, le-ltb}
use Rattle.lines.specs.Decimal.{digits_of, decimal}

pub decimal_one : (v : ℕ) → v < 10 → decimal v ≡ (48 + v) ∷ []
unfolding digits_of
decimal_one v h = rw (lt-ltb v 10 h)

pub decimal_two : (v : ℕ) → 10 ≤ v → v < 100 → decimal v ≡ (48 + v / 10) ∷ (48 + v % 10) ∷ []
unfolding digits_of
decimal_two v l h = rw (le-ltb v 10 l, lt-ltb (v / 10) 10 (omega arith))

pub decimal_three : (v : ℕ) → 100 ≤ v → v < 1000 → decimal v ≡ (48 + v / 100) ∷ (48 + v / 10 % 10) ∷ (48 + v % 10) ∷ []
unfolding digits_of
decimal_three v l h =
    let e : v / 10 / 10 ≡ v / 100 = omega arith in
    rw (le-ltb v 10 (omega arith), le-ltb (v / 10) 10 (omega arith), lt-ltb (v / 10 / 10) 10 (omega arith), e)
