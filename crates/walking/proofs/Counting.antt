-- How many operations measure, and that a run has one outcome for each measurement. Assumes nothing.
use mathlib.Core.Path.{◌≡◌, ap}
use mathlib.Core.List.{List, [], ◌∷◌, ◌++◌}
use Rattle.std.specs.Prelude.{Option, None, Some}
use Prim.Native.Nat.{ℕ, suc, ◌+◌, ◌≤◌}
use native.Mathlib.Omega.{arith}
use lib.ListN.{length, length-append}
use Rattle.answers.specs.Verdict.{accepted}
use Rattle.answers.proofs.Accepting.{then_accepted}
use Rattle.clifford.specs.declared.Op.{Op}
use Rattle.clifford.specs.declared.Op.TheVariants.{Gate as apply, Measure as measure}
use Rattle.clifford.specs.Tableau.{gated}
use Rattle.clifford.specs.Measurement.{random_row, Answer, random_answer, fixed_answer}
use Rattle.clifford.specs.Run.{State, coin, concluded, settle, step, run}
use Rattle.circuit.specs.Text.{measures, count_measured}
use Rattle.circuit.proofs.Walk.{measures_one}

pub measured_few : (ops : List Op) → count_measured ops ≤ length ops
measured_few [] = omega arith
measured_few (op ∷ ops) = omega (arith, measured_few ops, measures_one op)

pub counted_both : (before later : List Op) → count_measured (before ++ later) ≡ count_measured before + count_measured later
counted_both [] later = omega arith
counted_both (op ∷ before) later = omega (arith, counted_both before later)

pub step_count : (n line : ℕ) (op : Op) (e f : State) → step n line op e ≡ accepted f → length f.outcomes ≡ length e.outcomes + measures op
step_count n line (apply g) e f q =
    let s : State = record { outcomes = e.outcomes; rows = gated g e.rows; coins = e.coins } in
    let u : s ≡ f = cc in
    omega (arith, ap (λ (k : State). length k.outcomes) u)
step_count n line (measure g a) e f q = go (random_row n a e.rows) e.coins q
  where
    one_more : (m : Answer) (coins : List ℕ) → accepted (concluded g a e m coins) ≡ accepted f → length f.outcomes ≡ length e.outcomes + 1
    one_more m coins q =
        let u : concluded g a e m coins ≡ f = cc in
        omega (arith, length-append e.outcomes (m.outcome ∷ []), ap (λ (k : State). length k.outcomes) u)

    go : (o : Option ℕ) (coins : List ℕ) → settle n line g a e o coins ≡ accepted f → length f.outcomes ≡ length e.outcomes + 1
    go None coins q = one_more (fixed_answer n a e.rows) coins q
    go (Some p) [] q = absurd (let z : ◌≡◌ {A = ℕ} 0 1 = cc in omega arith)
    go (Some p) (byte ∷ coins) q = one_more (random_answer n a p (coin byte) e.rows) coins q

pub run_count : (n line : ℕ) (ops : List Op) (e f : State) → run n line ops e ≡ accepted f → length f.outcomes ≡ length e.outcomes + count_measured ops
run_count n line [] e f q = let u : e ≡ f = cc in omega (arith, ap (λ (k : State). length k.outcomes) u)
run_count n line (op ∷ ops) e f q =
    let w = then_accepted (step n line op e) (run n (suc line) ops) f q in
    omega (arith, step_count n line op e w.value w.first, run_count n (suc line) ops w.value f w.later)
