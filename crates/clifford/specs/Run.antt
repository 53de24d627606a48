-- A run of operations on a tableau with lent coins: the operations' rules, one after the other. Assumes nothing.
use Rattle.std.specs.Prelude.{Bool, cond, List, [], ◌∷◌, ◌++◌, ℕ, suc, ◌%◌, ◌<◌, eqb}
use Rattle.std.specs.Prelude.{Option, None, Some}
use Rattle.answers.specs.Verdict.{Verdict, accepted, refused, then}
use Rattle.clifford.specs.declared.One.TheVariants.{PauliX}
use Rattle.clifford.specs.declared.Gate.TheVariants.{One as one}
use Rattle.clifford.specs.declared.After.{After}
use Rattle.clifford.specs.declared.After.TheVariants.{Keep, Reset}
use Rattle.clifford.specs.declared.Op.{Op}
use Rattle.clifford.specs.declared.Op.TheVariants.{Gate as apply, Measure as measure}
use Rattle.clifford.specs.Gates.{Fits}
use Rattle.clifford.specs.Tableau.{Rows, start, gated}
use Rattle.clifford.specs.declared.Outcome.{Outcome}
use Rattle.clifford.specs.Measurement.{random_row, Answer, random_answer, fixed_answer}

-- only the lowest bit of a coin byte counts
abbrev pub coin : ℕ → Bool
coin byte = eqb (byte % 2) 1

-- where a run stands: the outcomes so far in order, the rows, and the coins that are left
pub record State : Type 0 where
  pub outcomes : List Outcome
  pub rows : Rows
  pub coins : List ℕ

-- where a run begins
abbrev pub begin : ℕ → List ℕ → State
begin n coins = record { outcomes = []; rows = start n; coins = coins }

-- what follows a measurement of a: M leaves the rows, and MR applies X on a when the outcome was 1
abbrev pub afterwards : After → ℕ → Bool → Rows → Rows
afterwards Keep a outcome t = t
afterwards Reset a outcome t = cond outcome (gated (one PauliX a) t) t

-- the state after a measurement, which has left these coins: its outcome comes last
abbrev pub concluded : After → ℕ → State → Answer → List ℕ → State
concluded f a s m coins = record { outcomes = s.outcomes ++ (m.outcome ∷ []); rows = afterwards f a m.outcome.value m.after; coins = coins }

-- coins are taken in order, one for each random measurement, none for a fixed one
abbrev pub settle : ℕ → ℕ → After → ℕ → State → Option ℕ → List ℕ → Verdict State
settle n line f a s None coins = accepted (concluded f a s (fixed_answer n a s.rows) coins)
settle n line f a s (Some p) [] = refused 7 line
settle n line f a s (Some p) (byte ∷ coins) = accepted (concluded f a s (random_answer n a p (coin byte) s.rows) coins)

-- one operation, which stands on this line
abbrev pub step : ℕ → ℕ → Op → State → Verdict State
step n line (apply g) s = accepted (record { outcomes = s.outcomes; rows = gated g s.rows; coins = s.coins })
step n line (measure f a) s = settle n line f a s (random_row n a s.rows) s.coins

-- the operations in order, the first of them on this line
abbrev pub run : ℕ → ℕ → List Op → State → Verdict State
run n line [] s = accepted s
run n line (op ∷ ops) s = then (step n line op s) (λ next. run n (suc line) ops next)

-- the qubits of an operation are of the n
abbrev pub Valid : ℕ → Op → Type 0
Valid n (apply g) = Fits n g
Valid n (measure f a) = a < n

abbrev pub AllValid : ℕ → List Op → Type 0
AllValid n [] = Unit {0}
AllValid n (op ∷ ops) = Valid n op × AllValid n ops
