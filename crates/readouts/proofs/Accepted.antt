-- Which runs are accepted: a coin for each measurement is enough, and of two runs that are lent equally many coins both are or neither is. Assumes nothing.
use mathlib.Core.Path.{◌≡◌, refl, sym, ◌∙◌, ap}
use mathlib.Core.List.{List, [], ◌∷◌}
use Rattle.std.specs.Prelude.{Option, None, Some}
use Prim.Native.Nat.{ℕ, suc, ◌≤◌}
use native.Mathlib.Omega.{arith}
use lib.ListN.{length}
use Rattle.answers.specs.Verdict.{Verdict, accepted, then}
use Rattle.answers.proofs.Accepting.{same_accepted}
use Rattle.clifford.specs.declared.Op.{Op}
use Rattle.clifford.specs.declared.Op.TheVariants.{Gate as apply, Measure as measure}
use Rattle.clifford.specs.Measurement.{random_row}
use Rattle.clifford.specs.Run.{State, begin, settle, run}
use Rattle.clifford.proofs.Alike.{Alike, all_refused, all_accepted, alike_run, one_length, two_alike, begin_alike}
use Rattle.circuit.specs.Text.{Circuit, count_measured}

-- a coin for each measurement is enough
pub enough : (n line : ℕ) (ops : List Op) (s : State) → count_measured ops ≤ length s.coins → (e : State) × (run n line ops s ≡ accepted e)
enough n line [] s h = (s, refl)
enough n line (apply g ∷ ops) s h = enough n (suc line) ops _ (omega arith)
enough n line (measure f a ∷ ops) s h = go (enough n (suc line) ops) (random_row n a s.rows) s.coins h
  where
    go : ((t : State) → count_measured ops ≤ length t.coins → (e : State) × (run n (suc line) ops t ≡ accepted e))
        → (o : Option ℕ) (coins : List ℕ) → count_measured (measure f a ∷ ops) ≤ length coins
        → (e : State) × (then (settle n line f a s o coins) (λ next. run n (suc line) ops next) ≡ accepted e)
    go ih None coins h = ih _ (omega arith)
    go ih (Some p) [] h = absurd (omega arith)
    go ih (Some p) (byte ∷ coins) h = ih _ (omega arith)

-- the run with these coins is accepted, with so many left
pub record Ends (c : Circuit) (coins : List ℕ) (left : ℕ) : Type 0 where
  pub state : State
  pub ran : run c.qubits 2 c.ops (begin c.qubits coins) ≡ accepted state
  pub left_is : length state.coins ≡ left

pub ends_once : (c : Circuit) (coins : List ℕ) (j k : ℕ) → Ends c coins j → Ends c coins k → j ≡ k
ends_once c coins j k x y = sym x.left_is ∙ ap (λ s. length s.coins) (same_accepted x.state y.state (sym x.ran ∙ y.ran)) ∙ y.left_is

-- two runs that are lent equally many coins: where one is accepted the other is, with as many left
pub both_end : (c : Circuit) (a b : List ℕ) → length b ≡ length a → (e : State) → run c.qubits 2 c.ops (begin c.qubits a) ≡ accepted e → Ends c b (length e.coins)
both_end c a b l e h = go (alike_run c.qubits 2 c.ops (begin_alike c.qubits (two_alike a b l))) h refl
  where
    go : {p q r s : Verdict State} → Alike p q r s → p ≡ accepted e → run c.qubits 2 c.ops (begin c.qubits b) ≡ q → Ends c b (length e.coins)
    go all_refused h k = absurd (let z : ◌≡◌ {A = ℕ} 0 1 = cc in omega arith)
    go (all_accepted {a = x} {b = y} m) h k = record { state = y; ran = k; left_is = (one_length m.coins).0 ∙ ap (λ s. length s.coins) (same_accepted x e h) }
