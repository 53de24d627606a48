-- A tally that is stepped at each measurement is that of the run: it counts the outcomes, the random ones and the coins that are gone. The last two are equal,
-- since a run takes one coin for each random measurement and none for a fixed one, from the front of what it was lent. Assumes nothing.
use mathlib.Core.Path.{◌≡◌, refl, sym, ◌∙◌, ap}
use mathlib.Core.Bool.{Bool, true, false}
use mathlib.Core.List.{List, [], ◌∷◌, ◌++◌}
use Rattle.std.specs.Prelude.{Option, None, Some}
use Prim.Native.Nat.{ℕ, suc, ◌+◌, ◌-◌, ◌≤◌}
use native.Mathlib.Omega.{arith}
use lib.ListN.{length, drop, length-append}
use lib.Seq.{drop-drop}
use Rattle.answers.specs.Verdict.{Verdict, accepted, refused, then}
use Rattle.clifford.specs.declared.Op.{Op}
use Rattle.clifford.specs.declared.Op.TheVariants.{Gate as apply, Measure as measure}
use Rattle.clifford.specs.Tableau.{Rows}
use Rattle.clifford.specs.declared.Outcome.{Outcome}
use Rattle.clifford.specs.Measurement.{random_row, random_answer, fixed_answer}
use Rattle.clifford.specs.Run.{State, begin, coin, settle, step, run}
use Rattle.tally.specs.Tally.{one_if, randoms, tally_of}
use Rattle.tally.specs.Parts.Stepping.{none_yet, stepped}

randoms_more : (outcomes : List Outcome) (o : Outcome) → randoms (outcomes ++ (o ∷ [])) ≡ randoms outcomes + one_if o.random
randoms_more [] o = omega arith
randoms_more (p ∷ outcomes) o = omega (arith, randoms_more outcomes o)

pub randoms_within : (outcomes : List Outcome) → randoms outcomes ≤ length outcomes
randoms_within [] = omega arith
randoms_within (o ∷ outcomes) = go o.random (randoms_within outcomes)
  where
    go : (b : Bool) → randoms outcomes ≤ length outcomes → one_if b + randoms outcomes ≤ suc (length outcomes)
    go true h = omega arith
    go false h = omega arith

pub tally_begin : (n : ℕ) (lent : List ℕ) → none_yet ≡ tally_of lent (begin n lent)
tally_begin n lent = let z : 0 ≡ length lent - length lent = omega arith in λ i. record { measured = 0; random = 0; taken = z i }

-- one outcome more, with its coin where it is random
pub tally_stepped : (lent : List ℕ) (s : State) (o : Outcome) (rows : Rows) (left : List ℕ) → length s.coins ≡ one_if o.random + length left → length s.coins ≤ length lent
    → stepped o.random (tally_of lent s) ≡ tally_of lent (record { outcomes = s.outcomes ++ (o ∷ []); rows = rows; coins = left })
tally_stepped lent s o rows left e h =
    let m : length s.outcomes + 1 ≡ length (s.outcomes ++ (o ∷ [])) = omega (arith, length-append s.outcomes (o ∷ [])) in
    let t : length lent - length s.coins + one_if o.random ≡ length lent - length left = omega arith in
    λ i. record { measured = m i; random = sym (randoms_more s.outcomes o) i; taken = t i }

-- between two states of a run: a coin from the front for each random outcome, and for nothing else
pub record Paid (s t : State) : Type 0 where
  pub more : randoms s.outcomes ≤ randoms t.outcomes
  pub left : t.coins ≡ drop (randoms t.outcomes - randoms s.outcomes) s.coins
  pub balance : randoms t.outcomes + length t.coins ≡ randoms s.outcomes + length s.coins

abbrev pub Pays : State → Verdict State → Type 0
Pays s (accepted t) = Paid s t
Pays s (refused number place) = Unit {0}

paid_then : (s t u : State) → Paid s t → Paid t u → Paid s u
paid_then s t u p q =
    let a = randoms t.outcomes - randoms s.outcomes in
    let b = randoms u.outcomes - randoms t.outcomes in
    let k : a + b ≡ randoms u.outcomes - randoms s.outcomes = omega (arith, p.more, q.more) in
    record {
      more = omega (arith, p.more, q.more);
      left = q.left ∙ ap (drop b) p.left ∙ drop-drop b a s.coins ∙ ap (λ (i : ℕ). drop i s.coins) k;
      balance = omega (arith, p.balance, q.balance);
    }

-- an outcome more for so many coins less
paid_one : (s : State) (o : Outcome) (rows : Rows) (left : List ℕ) → left ≡ drop (one_if o.random) s.coins → one_if o.random + length left ≡ length s.coins
    → Paid s (record { outcomes = s.outcomes ++ (o ∷ []); rows = rows; coins = left })
paid_one s o rows left e l =
    let k : one_if o.random ≡ randoms (s.outcomes ++ (o ∷ [])) - randoms s.outcomes = omega (arith, randoms_more s.outcomes o) in
    record {
      more = omega (arith, randoms_more s.outcomes o);
      left = e ∙ ap (λ (i : ℕ). drop i s.coins) k;
      balance = omega (arith, randoms_more s.outcomes o);
    }

nothing : (s : State) (rows : Rows) → Paid s (record { outcomes = s.outcomes; rows = rows; coins = s.coins })
nothing s rows =
    let k : 0 ≡ randoms s.outcomes - randoms s.outcomes = omega arith in
    record { more = omega arith; left = ap (λ (i : ℕ). drop i s.coins) k; balance = refl }

step_pays : (n line : ℕ) (op : Op) (s : State) → Pays s (step n line op s)
step_pays n line (apply g) s = nothing s _
step_pays n line (measure f a) s = go (random_row n a s.rows) s.coins refl
  where
    go : (o : Option ℕ) (coins : List ℕ) → s.coins ≡ coins → Pays s (settle n line f a s o coins)
    go None coins e = paid_one s (fixed_answer n a s.rows).outcome _ coins (sym e) (omega (arith, ap length e))
    go (Some p) [] e = tt
    go (Some p) (byte ∷ coins) e = paid_one s (random_answer n a p (coin byte) s.rows).outcome _ coins (ap (drop 1) (sym e)) (omega (arith, ap length e))

pub run_pays : (n line : ℕ) (ops : List Op) (s : State) → Pays s (run n line ops s)
run_pays n line [] s = nothing s s.rows
run_pays n line (op ∷ ops) s = go (run_pays n (suc line) ops) (step n line op s) (step_pays n line op s)
  where
    later : (t : State) → Paid s t → (v : Verdict State) → Pays t v → Pays s v
    later t p (accepted u) q = paid_then s t u p q
    later t p (refused number place) q = tt

    go : ((t : State) → Pays t (run n (suc line) ops t)) → (v : Verdict State) → Pays s v → Pays s (then v (run n (suc line) ops))
    go ih (accepted t) p = later t p (run n (suc line) ops t) (ih t)
    go ih (refused number place) p = tt

-- of a run from the start: the last two counters are equal, and the coins left are those lent without their first so many
pub record Tied (lent : List ℕ) (s : State) : Type 0 where
  pub random_taken : (tally_of lent s).random ≡ (tally_of lent s).taken
  pub within : (tally_of lent s).taken ≤ length lent
  pub rest : s.coins ≡ drop (tally_of lent s).taken lent

pub tally_tied : (n line : ℕ) (ops : List Op) (lent : List ℕ) (s : State) → run n line ops (begin n lent) ≡ accepted s → Tied lent s
tally_tied n line ops lent s e = go (rw e at (run_pays n line ops (begin n lent)))
  where
    go : Paid (begin n lent) s → Tied lent s
    go p =
        let t : randoms s.outcomes ≡ length lent - length s.coins = omega (arith, p.balance) in
        let k : randoms s.outcomes - 0 ≡ length lent - length s.coins = omega (arith, t) in
        record { random_taken = t; within = omega arith; rest = p.left ∙ ap (λ (i : ℕ). drop i lent) k }
