-- A run adds its outcomes behind those that were there, and a measurement the one that its rule tells. Assumes nothing.
use mathlib.Core.Path.{◌≡◌, refl, sym, ◌∙◌, ap}
use mathlib.Core.Bool.{Bool, true, false}
use mathlib.Core.List.{List, [], ◌∷◌, ◌++◌, append-nil, append_assoc}
use Rattle.std.specs.Prelude.{Option, None, Some}
use Prim.Native.Nat.{ℕ, suc}
use native.Mathlib.Omega.{arith}
use Rattle.answers.specs.Verdict.{Verdict, accepted, refused, then}
use Rattle.answers.proofs.Accepting.{same_accepted}
use Rattle.clifford.specs.declared.After.{After}
use Rattle.clifford.specs.declared.Op.{Op}
use Rattle.clifford.specs.declared.Op.TheVariants.{Gate as apply, Measure as measure}
use Rattle.clifford.specs.Tableau.{Rows}
use Rattle.clifford.specs.declared.Outcome.{Outcome}
use Rattle.clifford.specs.Measurement.{random_row, fixed_value}
use Rattle.clifford.specs.Generators.{FixedAt}
use Rattle.clifford.specs.Run.{State, coin, settle, step, run}

-- an outcome of this kind and value is what the measurement rule gives for a, a random one with whatever coin
abbrev pub ToldAs : ℕ → ℕ → Rows → Bool → Bool → Type 0
ToldAs n a t false value = FixedAt n a t value
ToldAs n a t true value = random_row n a t ≡ None → ⊥

pub record Measured (n a : ℕ) (s e : State) : Type 0 where
  pub outcome : Outcome
  pub added : e.outcomes ≡ s.outcomes ++ (outcome ∷ [])
  pub told : ToldAs n a s.rows outcome.random outcome.value

pub step_measured : (n line : ℕ) (f : After) (a : ℕ) (s e : State) → step n line (measure f a) s ≡ accepted e → Measured n a s e
step_measured n line f a s e q = go (random_row n a s.rows) refl s.coins q
  where
    added : (t : State) (o : Outcome) → t.outcomes ≡ s.outcomes ++ (o ∷ []) → accepted t ≡ accepted e → e.outcomes ≡ s.outcomes ++ (o ∷ [])
    added t o u k = ap (λ (v : State). v.outcomes) (sym (same_accepted t e k)) ∙ u

    go : (p : Option ℕ) → random_row n a s.rows ≡ p → (coins : List ℕ) → settle n line f a s p coins ≡ accepted e → Measured n a s e
    go None u coins k = record { outcome = record { random = false; value = fixed_value n a s.rows }; added = added _ _ refl k; told = record { fixed = u; is = refl } }
    go (Some p) u [] k = absurd (let z : ◌≡◌ {A = ℕ} 0 1 = cc in omega arith)
    go (Some p) u (byte ∷ coins) k = record { outcome = record { random = true; value = coin byte }; added = added _ _ refl k; told = λ w. let z : ◌≡◌ {A = ℕ} 0 1 = cc in omega arith }

-- more outcomes behind those before
pub record Added (before after : List Outcome) : Type 0 where
  pub more : List Outcome
  pub is : after ≡ before ++ more

step_adds : (n line : ℕ) (op : Op) (s e : State) → step n line op s ≡ accepted e → Added s.outcomes e.outcomes
step_adds n line (apply g) s e q = record { more = []; is = ap (λ (v : State). v.outcomes) (sym (same_accepted _ e q)) ∙ sym (append-nil s.outcomes) }
step_adds n line (measure f a) s e q =
    let m = step_measured n line f a s e q in
    record { more = m.outcome ∷ []; is = m.added }

pub run_adds : (n line : ℕ) (ops : List Op) (s e : State) → run n line ops s ≡ accepted e → Added s.outcomes e.outcomes
run_adds n line [] s e q = record { more = []; is = ap (λ (v : State). v.outcomes) (sym (same_accepted s e q)) ∙ sym (append-nil s.outcomes) }
run_adds n line (op ∷ ops) s e q = go (λ t. run_adds n (suc line) ops t e) (step n line op s) refl q
  where
    go : ((t : State) → run n (suc line) ops t ≡ accepted e → Added t.outcomes e.outcomes) → (v : Verdict State) → step n line op s ≡ v → then v (run n (suc line) ops) ≡ accepted e → Added s.outcomes e.outcomes
    go ih (accepted t) u k =
        let a = step_adds n line op s t u in
        let b = ih t k in
        record { more = a.more ++ b.more; is = b.is ∙ ap (λ (l : List Outcome). l ++ b.more) a.is ∙ append_assoc s.outcomes a.more b.more }
    go ih (refused number place) u k = absurd (let z : ◌≡◌ {A = ℕ} 0 1 = cc in omega arith)
