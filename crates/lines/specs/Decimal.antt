-- A number in decimal. Assumes nothing.
use Rattle.std.specs.Prelude.{cond, List, [], ◌∷◌, ◌++◌, ℕ, zero, suc, ◌+◌, ◌/◌, ◌%◌, ltb}

-- a number in decimal without leading zeros, if it has at most so many digits: the last digit behind those of a tenth of it
unfoldable pub digits_of : ℕ → ℕ → List ℕ
digits_of zero v = []
digits_of (suc k) v = cond (ltb v 10) ((48 + v) ∷ []) (digits_of k (v / 10) ++ ((48 + v % 10) ∷ []))

-- no number of a machine word has more than 20 digits
abbrev pub decimal : ℕ → List ℕ
decimal v = digits_of 20 v
