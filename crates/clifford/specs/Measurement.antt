-- The measurement of a qubit: document 01, "M a", random or fixed. Assumes nothing.
use Rattle.std.specs.Prelude.{Bool, true, false, cond, ℕ, eqb}
use Rattle.std.specs.Prelude.{Option}
use Rattle.answers.specs.First.{lowest}
use Rattle.pauli.specs.Letters.{Z, x}
use Rattle.pauli.specs.Rows.{Row, times_row, Phased, minus_sign}
use Rattle.choices.specs.Choices.{chosen_product}
use Rattle.clifford.specs.declared.Outcome.{Outcome}
use Rattle.clifford.specs.Tableau.{Rows, alone}

-- the row has X or Y at a
abbrev pub has_x : ℕ → Row → Bool
has_x a r = x (r.letters a)

-- if a stabilizer row has X or Y at a, the measurement is random, and p is the lowest such row
abbrev pub random_row : ℕ → ℕ → Rows → Option ℕ
random_row n a t = lowest (λ i. has_x a (t.stabilizer i)) n

-- a row with X or Y at a is multiplied by row p
abbrev pub cleared : ℕ → ℕ → Row → Row → Row
cleared n a p r = cond (has_x a r) (times_row n r p) r

-- Z on a alone, its sign minus when the coin is 1
abbrev pub settled : ℕ → Bool → Row
settled a coin = record { minus = coin; letters = alone Z a }

-- every row with X or Y at a, other than p and p's partner, is multiplied by row p; the partner becomes old row p; row p becomes Z on a alone
abbrev pub collapsed : ℕ → ℕ → ℕ → Bool → Rows → Rows
collapsed n a p coin t = record {
  destabilizer = λ i. cond (eqb i p) (t.stabilizer p) (cleared n a (t.stabilizer p) (t.destabilizer i));
  stabilizer = λ i. cond (eqb i p) (settled a coin) (cleared n a (t.stabilizer p) (t.stabilizer i));
}

-- the product, in order and with its power of i, of those of the first k stabilizers whose partners have X or Y at a
abbrev pub gathered : ℕ → ℕ → Rows → ℕ → Phased
gathered n a t k = chosen_product n t.stabilizer (λ i. has_x a (t.destabilizer i)) k

-- otherwise the measurement is fixed: no row changes, and the outcome is 1 when the sign of the product of all of them is minus
abbrev pub fixed_value : ℕ → ℕ → Rows → Bool
fixed_value n a t = minus_sign (gathered n a t n).phase

-- what a measurement comes to: the rows after it, and its outcome
pub record Answer : Type 0 where
  pub after : Rows
  pub outcome : Outcome

-- random at row p: the outcome is the coin
abbrev pub random_answer : ℕ → ℕ → ℕ → Bool → Rows → Answer
random_answer n a p coin t = record { after = collapsed n a p coin t; outcome = record { random = true; value = coin } }

-- fixed: no row changes
abbrev pub fixed_answer : ℕ → ℕ → Rows → Answer
fixed_answer n a t = record { after = t; outcome = record { random = false; value = fixed_value n a t } }
