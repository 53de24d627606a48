-- What the merged step replaces: M, and an X line where the outcome was 1, make of a run what MR makes of it. Assumes nothing.
use mathlib.Core.Path.{◌≡◌, refl, sym, ◌∙◌, ap}
use mathlib.Core.Bool.{true, false}
use mathlib.Core.List.{List, [], ◌∷◌, ◌++◌}
use Rattle.std.specs.Prelude.{Option, None, Some}
use Prim.Native.Nat.{ℕ, suc, ◌+◌}
use lib.ListN.{length}
use Rattle.answers.specs.Verdict.{Verdict, accepted, refused, then}
use Rattle.clifford.specs.declared.One.TheVariants.{PauliX}
use Rattle.clifford.specs.declared.Gate.TheVariants.{One as one}
use Rattle.clifford.specs.declared.After.TheVariants.{Keep, Reset}
use Rattle.clifford.specs.declared.Op.{Op}
use Rattle.clifford.specs.declared.Op.TheVariants.{Gate as apply, Measure as measure}
use Rattle.clifford.specs.declared.Outcome.{Outcome}
use Rattle.clifford.specs.Measurement.{Answer, random_row, random_answer, fixed_answer}
use Rattle.clifford.specs.Run.{State, coin, concluded, settle, run}
use Rattle.clifford.proofs.Running.{run_joined}

-- the last of a list that is not empty
last : Outcome → List Outcome → Outcome
last d [] = d
last d (o ∷ outcomes) = last o outcomes

last_is : (d : Outcome) (outcomes : List Outcome) (o : Outcome) → last d (outcomes ++ (o ∷ [])) ≡ o
unfolding last
last_is d [] o = refl
last_is d (p ∷ outcomes) o = last_is p outcomes o

module _ (n a : ℕ) (s : State) (before : List Outcome) (o : Outcome) where
  -- the outcome was the last
  outcome_is : (e : State) (m : Answer) (coins : List ℕ) → accepted (concluded Keep a s m coins) ≡ accepted e → e.outcomes ≡ before ++ (o ∷ []) → m.outcome ≡ o
  outcome_is e m coins q l =
      let u : concluded Keep a s m coins ≡ e = cc in
      sym (last_is o s.outcomes m.outcome) ∙ ap (λ (t : State). last o t.outcomes) u ∙ ap (last o) l ∙ last_is o before o

  module _ (line : ℕ) (e : State) (l : e.outcomes ≡ before ++ (o ∷ [])) where
    one_flips : o.value ≡ true → (k : Option ℕ) (coins : List ℕ) → then (settle n line Keep a s k coins) (run n (suc line) []) ≡ accepted e
        → then (settle n line Reset a s k coins) (run n (suc line) []) ≡ then (settle n line Keep a s k coins) (run n (suc line) (apply (one PauliX a) ∷ []))
    one_flips v None coins q = rw (ap (λ (p : Outcome). p.value) (outcome_is e (fixed_answer n a s.rows) coins q l) ∙ v)
    one_flips v (Some p) [] q = refl
    one_flips v (Some p) (byte ∷ coins) q = rw (ap (λ (p : Outcome). p.value) (outcome_is e (random_answer n a p (coin byte) s.rows) coins q l) ∙ v)

    zero_keeps : o.value ≡ false → (k : Option ℕ) (coins : List ℕ) → then (settle n line Keep a s k coins) (run n (suc line) []) ≡ accepted e
        → then (settle n line Reset a s k coins) (run n (suc line) []) ≡ then (settle n line Keep a s k coins) (run n (suc line) [])
    zero_keeps v None coins q = rw (ap (λ (p : Outcome). p.value) (outcome_is e (fixed_answer n a s.rows) coins q l) ∙ v)
    zero_keeps v (Some p) [] q = refl
    zero_keeps v (Some p) (byte ∷ coins) q = rw (ap (λ (p : Outcome). p.value) (outcome_is e (random_answer n a p (coin byte) s.rows) coins q l) ∙ v)

-- a run that ends in M a, whose last outcome is o
module _ (n line a : ℕ) (ops : List Op) (s e : State) (before : List Outcome) (o : Outcome) (q : run n line (ops ++ (measure Keep a ∷ [])) s ≡ accepted e) (l : e.outcomes ≡ before ++ (o ∷ [])) where
  abbrev here : ℕ
  here = line + length ops

  -- with outcome 1, and the X line behind it, it is the run that ends in MR a: outcomes, rows and coins
  pub m_then_x : o.value ≡ true → run n line (ops ++ (measure Keep a ∷ apply (one PauliX a) ∷ [])) s ≡ run n line (ops ++ (measure Reset a ∷ [])) s
  m_then_x v = run_joined n line ops _ s ∙ go (run n line ops s) (sym (run_joined n line ops _ s) ∙ q) ∙ sym (run_joined n line ops _ s)
    where
      go : (w : Verdict State) → then w (run n here (measure Keep a ∷ [])) ≡ accepted e → then w (run n here (measure Keep a ∷ apply (one PauliX a) ∷ [])) ≡ then w (run n here (measure Reset a ∷ []))
      go (accepted t) q = sym (one_flips n a t before o here e l v (random_row n a t.rows) t.coins q)
      go (refused number place) q = refl

  -- with outcome 0 it is that already
  pub m_alone : o.value ≡ false → run n line (ops ++ (measure Keep a ∷ [])) s ≡ run n line (ops ++ (measure Reset a ∷ [])) s
  m_alone v = run_joined n line ops _ s ∙ go (run n line ops s) (sym (run_joined n line ops _ s) ∙ q) ∙ sym (run_joined n line ops _ s)
    where
      go : (w : Verdict State) → then w (run n here (measure Keep a ∷ [])) ≡ accepted e → then w (run n here (measure Keep a ∷ [])) ≡ then w (run n here (measure Reset a ∷ []))
      go (accepted t) q = sym (zero_keeps n a t before o here e l v (random_row n a t.rows) t.coins q)
      go (refused number place) q = refl
