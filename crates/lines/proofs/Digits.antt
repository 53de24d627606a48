-- The digits of a number, one at a time, and how many there are. Assumes nothing.
use mathlib.Core.Bool.{Bool, true, false, cond}
use mathlib.Core.List.{List, [], ◌∷◌, ◌++◌}
use mathlib.Core.Path.{◌≡◌, ap}
use Prim.Native.Nat.{ℕ, zero, suc, ◌+◌, ◌/◌, ◌%◌, ◌^◌, ◌≤◌, ◌<◌}
use native.Mathlib.Omega.{arith}
use borrow.Author.Tests.{lt-ltb, le-ltb}
use lib.Dec.{ltb}
use lib.ListN.{length, length-append}
use Rattle.lines.specs.Decimal.{digits_of, decimal}

pub digits_few : (k v : ℕ) → length (digits_of k v) ≤ k
unfolding digits_of
digits_few zero v = omega arith
digits_few (suc k) v = go (ltb v 10) (digits_few k (v / 10))
  where
    go : (b : Bool) → length (digits_of k (v / 10)) ≤ k → length (cond b ((48 + v) ∷ []) (digits_of k (v / 10) ++ ((48 + v % 10) ∷ []))) ≤ suc k
    go true h = omega arith
    go false h = omega (arith, length-append (digits_of k (v / 10)) ((48 + v % 10) ∷ []))

-- a number below 10 ^ (k + 1) has no more digits where more are asked for
digits_end : (k v : ℕ) → v < 10 ^ suc k → digits_of (suc k) v ≡ digits_of (suc (suc k)) v
unfolding digits_of
digits_end zero v h = rw (lt-ltb v 10 (omega arith))
digits_end (suc k) v h = ap (λ (t : List ℕ). cond (ltb v 10) ((48 + v) ∷ []) (t ++ ((48 + v % 10) ∷ []))) (digits_end k (v / 10) (omega arith))

-- the last digit, and those before it
pub decimal_last : (v : ℕ) → v < 10 → decimal v ≡ (48 + v % 10) ∷ []
unfolding digits_of
decimal_last v h = let e : v % 10 ≡ v = omega arith in rw (lt-ltb v 10 h, e)

pub decimal_more : (v : ℕ) → 10 ≤ v → v < 2 ^ 64 → decimal v ≡ decimal (v / 10) ++ ((48 + v % 10) ∷ [])
unfolding digits_of
decimal_more v h l = rw (le-ltb v 10 h) (ap (λ (t : List ℕ). t ++ ((48 + v % 10) ∷ [])) (digits_end 18 (v / 10) (omega arith)))

pub decimal_few : (v : ℕ) → length (decimal v) ≤ 20
decimal_few v = digits_few 20 v

-- there is room for one digit more behind a tenth
pub decimal_fewer : (v : ℕ) → 10 ≤ v → v < 2 ^ 64 → length (decimal (v / 10)) + 1 ≤ 20
decimal_fewer v h l = omega (arith, decimal_few v, ap length (decimal_more v h l), length-append (decimal (v / 10)) ((48 + v % 10) ∷ []))
