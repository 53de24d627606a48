-- What a gate keeps of the rows and a random measurement keeps, every operation of a run keeps: a fixed measurement changes no row, and what follows a measurement is
-- nothing or a gate. Assumes nothing.
use mathlib.Core.Path.{◌≡◌}
use mathlib.Core.Bool.{Bool, true, false}
use mathlib.Core.List.{List, [], ◌∷◌}
use Rattle.std.specs.Prelude.{Option, None, Some}
use Prim.Native.Nat.{ℕ, suc, ◌<◌}
use Rattle.answers.specs.Verdict.{Verdict, accepted, refused, then}
use Rattle.answers.proofs.First.{Answer, lowest_is}
use Rattle.clifford.specs.declared.One.TheVariants.{PauliX}
use Rattle.clifford.specs.declared.Gate.{Gate}
use Rattle.clifford.specs.declared.Gate.TheVariants.{One as one}
use Rattle.clifford.specs.declared.After.{After}
use Rattle.clifford.specs.declared.After.TheVariants.{Keep, Reset}
use Rattle.clifford.specs.declared.Op.{Op}
use Rattle.clifford.specs.declared.Op.TheVariants.{Gate as apply, Measure as measure}
use Rattle.clifford.specs.Gates.{Fits}
use Rattle.clifford.specs.Tableau.{Rows, gated}
use Rattle.clifford.specs.Measurement.{has_x, random_row, collapsed, fixed_value}
use Rattle.clifford.specs.Run.{State, coin, afterwards, settle, step, run, Valid, AllValid}

-- the rows of a state that is reached
abbrev pub Kept : (Rows → Type 0) → Verdict State → Type 0
Kept P (accepted s) = P s.rows
Kept P (refused number place) = Unit {0}

-- a gate keeps it, and so does a random measurement
pub record Keeps (n : ℕ) (P : Rows → Type 0) : Type 0 where
  pub by_gate : (g : Gate) (t : Rows) → Fits n g → P t → P (gated g t)
  pub by_random : (a p : ℕ) (coin : Bool) (t : Rows) → a < n → p < n → has_x a (t.stabilizer p) ≡ true → P t → P (collapsed n a p coin t)

module _ (n : ℕ) (P : Rows → Type 0) (k : Keeps n P) where
  by_afterwards : (f : After) (a : ℕ) (outcome : Bool) (t : Rows) → a < n → P t → P (afterwards f a outcome t)
  by_afterwards Keep a outcome t h q = q
  by_afterwards Reset a true t h q = k.by_gate (one PauliX a) t h q
  by_afterwards Reset a false t h q = q

  pub step_keeps : (line : ℕ) (op : Op) (s : State) → Valid n op → P s.rows → Kept P (step n line op s)
  step_keeps line (apply g) s v q = k.by_gate g s.rows v q
  step_keeps line (measure f a) s v q = go (random_row n a s.rows) s.coins (lowest_is (λ i. has_x a (s.rows.stabilizer i)) n)
    where
      go : (o : Option ℕ) (coins : List ℕ) → Answer (λ i. has_x a (s.rows.stabilizer i)) n o → Kept P (settle n line f a s o coins)
      go None coins l = by_afterwards f a (fixed_value n a s.rows) s.rows v q
      go (Some p) [] l = tt
      go (Some p) (byte ∷ coins) l = by_afterwards f a (coin byte) (collapsed n a p (coin byte) s.rows) v (k.by_random a p (coin byte) s.rows v l.below l.passes q)

  pub run_keeps : (line : ℕ) (ops : List Op) (s : State) → AllValid n ops → P s.rows → Kept P (run n line ops s)
  run_keeps line [] s v q = q
  run_keeps line (op ∷ ops) s v q = go (λ next m. run_keeps (suc line) ops next v.1 m) (step n line op s) (step_keeps line op s v.0 q)
    where
      go : ((next : State) → P next.rows → Kept P (run n (suc line) ops next)) → (w : Verdict State) → Kept P w → Kept P (then w (run n (suc line) ops))
      go ih (accepted next) m = ih next m
      go ih (refused number place) m = tt
