-- A run and the weighing of its readout go through the same rows: the coins that a run takes are the values that the readout states at the random measurements. Assumes nothing.
use mathlib.Core.Path.{◌≡◌, refl, sym, ◌∙◌, ap}
use mathlib.Core.Bool.{Bool, true, false, cond}
use mathlib.Core.List.{List, [], ◌∷◌, ◌++◌, map, map-append, append-nil, append_assoc}
use Rattle.std.specs.Prelude.{Option, None, Some}
use Prim.Native.Nat.{ℕ, suc, ◌+◌}
use native.Mathlib.Omega.{arith}
use lib.ListN.{length}
use Rattle.answers.specs.Verdict.{accepted, then}
use Rattle.pauli.specs.Letters.{◌⊕◌}
use Rattle.pauli.proofs.Cases.{tested, bit}
use Rattle.clifford.specs.declared.After.{After}
use Rattle.clifford.specs.declared.Op.{Op}
use Rattle.clifford.specs.declared.Op.TheVariants.{Gate as apply, Measure as measure}
use Rattle.clifford.specs.Tableau.{Rows, gated}
use Rattle.clifford.specs.declared.Outcome.{Outcome}
use Rattle.clifford.specs.Measurement.{random_row, collapsed, fixed_value, random_answer, fixed_answer}
use Rattle.clifford.specs.Run.{State, coin, afterwards, concluded, settle, step, run}
use Rattle.circuit.specs.Text.{count_measured}
use Rattle.readouts.specs.Readouts.{Weighed, possible, impossible, weigh}
use Rattle.readouts.specs.Coins.{readout_of}

-- the values that a readout states at the random measurements, in order
abbrev pub coins_of : ℕ → List Op → Rows → List Bool → List Bool
coins_of n [] t stated = []
coins_of n (apply g ∷ ops) t stated = coins_of n ops (gated g t) stated
coins_of n (measure f a ∷ ops) t [] = []
coins_of n (measure f a ∷ ops) t (value ∷ stated) =
    elim (random_row n a t) [
      | Some p ↦ value ∷ coins_of n ops (afterwards f a value (collapsed n a p value t)) stated
      | None ↦ coins_of n ops (afterwards f a value t) stated
    ]

-- a run from s that is accepted and ends in e: the values that it adds are weighed as possible, whatever was passed before, and their coins are those taken
pub record Followed (n line : ℕ) (ops : List Op) (s e : State) : Type 0 where
  pub readout : List Bool
  pub values : readout_of e.outcomes ≡ readout_of s.outcomes ++ readout
  pub long : length readout ≡ count_measured ops
  pub weighs : (k : ℕ) → weigh n line ops s.rows readout k ≡ possible (k + length (coins_of n ops s.rows readout))
  pub taken : map coin s.coins ≡ coins_of n ops s.rows readout ++ map coin e.coins

-- one value more, behind those of s
behind : (before : List Outcome) (o : Outcome) (r : List Bool) → readout_of (before ++ (o ∷ [])) ++ r ≡ readout_of before ++ (o.value ∷ r)
behind before o r = ap (λ l. l ++ r) (map-append (λ o. o.value) before (o ∷ [])) ∙ append_assoc (readout_of before) (o.value ∷ []) r

self : (b : Bool) → b ⊕ b ≡ false
self = tested (bit ∷ []) bit _ _ tt

ended : (n line : ℕ) (s e : State) → s ≡ e → Followed n line [] s e
ended n line s e q =
    record {
      readout = [];
      values = ap (λ s. readout_of s.outcomes) (sym q) ∙ sym (append-nil (readout_of s.outcomes));
      long = refl;
      weighs = λ k. ap possible (omega arith);
      taken = ap (λ s. map coin s.coins) q;
    }

pub followed : (n line : ℕ) (ops : List Op) (s e : State) → run n line ops s ≡ accepted e → Followed n line ops s e
followed n line [] s e h = ended n line s e cc
followed n line (apply g ∷ ops) s e h =
    let w = followed n (suc line) ops (record { outcomes = s.outcomes; rows = gated g s.rows; coins = s.coins }) e h in
    record { readout = w.readout; values = w.values; long = omega (arith, w.long); weighs = w.weighs; taken = w.taken }
followed n line (measure f a ∷ ops) s e h = go (λ t. followed n (suc line) ops t e) (random_row n a s.rows) s.coins refl refl h
  where
    go : ((t : State) → run n (suc line) ops t ≡ accepted e → Followed n (suc line) ops t e) → (o : Option ℕ) (coins : List ℕ) → random_row n a s.rows ≡ o → s.coins ≡ coins
        → then (settle n line f a s o coins) (λ next. run n (suc line) ops next) ≡ accepted e → Followed n line (measure f a ∷ ops) s e
    go ih None coins q d h =
        let v = fixed_value n a s.rows in
        let w = ih (concluded f a s (fixed_answer n a s.rows) coins) h in
        record {
          readout = v ∷ w.readout;
          values = w.values ∙ behind s.outcomes (fixed_answer n a s.rows).outcome w.readout;
          long = omega (arith, w.long);
          weighs = λ k. rw (q, weigh, coins_of, self v) (w.weighs k);
          taken = rw (q, coins_of, d) w.taken;
        }
    go ih (Some p) [] q d h = absurd (let z : ◌≡◌ {A = ℕ} 0 1 = cc in omega arith)
    go ih (Some p) (byte ∷ coins) q d h =
        let m = random_answer n a p (coin byte) s.rows in
        let w = ih (concluded f a s m coins) h in
        record {
          readout = coin byte ∷ w.readout;
          values = w.values ∙ behind s.outcomes m.outcome w.readout;
          long = omega (arith, w.long);
          weighs = λ k. rw (q, weigh, coins_of) (w.weighs (suc k) ∙ ap possible (omega arith));
          taken = rw (q, coins_of, d) (ap (λ l. coin byte ∷ l) w.taken);
        }

-- a run from s that is accepted and adds these values
pub record Adds (n line : ℕ) (ops : List Op) (s : State) (readout : List Bool) : Type 0 where
  pub state : State
  pub ran : run n line ops s ≡ accepted state
  pub values : readout_of state.outcomes ≡ readout_of s.outcomes ++ readout

-- a readout that is weighed as possible from these rows: its coins are so many, and a run from these rows that is lent them, and perhaps more, adds its values
pub record Replayed (n line : ℕ) (ops : List Op) (t : Rows) (readout : List Bool) (k m : ℕ) : Type 0 where
  pub passed : m ≡ k + length (coins_of n ops t readout)
  pub replays : (before : List Outcome) (lent : List ℕ) (later : List Bool) → map coin lent ≡ coins_of n ops t readout ++ later
      → Adds n line ops (record { outcomes = before; rows = t; coins = lent }) readout

-- a measurement and then the rest
adds_one : (n line : ℕ) (op : Op) (ops : List Op) (s : State) (o : Outcome) (rows : Rows) (left : List ℕ) (r : List Bool)
    → step n line op s ≡ accepted (record { outcomes = s.outcomes ++ (o ∷ []); rows = rows; coins = left })
    → Adds n (suc line) ops (record { outcomes = s.outcomes ++ (o ∷ []); rows = rows; coins = left }) r → Adds n line (op ∷ ops) s (o.value ∷ r)
adds_one n line op ops s o rows left r e w = record { state = w.state; ran = rw e w.ran; values = w.values ∙ behind s.outcomes o r }

module _ (n line : ℕ) (f : After) (a : ℕ) (ops : List Op) (t : Rows) (v : Bool) (r : List Bool) where
  replayed_fixed : (k m : ℕ) → random_row n a t ≡ None → fixed_value n a t ≡ v → Replayed n (suc line) ops (afterwards f a v t) r k m → Replayed n line (measure f a ∷ ops) t (v ∷ r) k m
  replayed_fixed k m q d w = record {
    passed = rw (q, coins_of) w.passed;
    replays = λ before lent later c. adds_one n line (measure f a) ops _ (record { random = false; value = v }) _ _ r (rw (q, d)) (w.replays _ lent later (rw (q, coins_of) at c));
  }

  replayed_random : (k m p : ℕ) → random_row n a t ≡ Some p → Replayed n (suc line) ops (afterwards f a v (collapsed n a p v t)) r (suc k) m → Replayed n line (measure f a ∷ ops) t (v ∷ r) k m
  replayed_random k m p q w = record { passed = rw (q, coins_of) (omega (arith, w.passed)); replays = λ before lent later c. go before lent later (rw (q, coins_of) at c) }
    where
      go : (before : List Outcome) (lent : List ℕ) (later : List Bool) → map coin lent ≡ v ∷ (coins_of n ops (afterwards f a v (collapsed n a p v t)) r ++ later)
          → Adds n line (measure f a ∷ ops) (record { outcomes = before; rows = t; coins = lent }) (v ∷ r)
      go before [] later c = absurd (let z : ◌≡◌ {A = ℕ} 0 1 = cc in omega arith)
      go before (byte ∷ lent) later c =
          let e : coin byte ≡ v = cc in
          adds_one n line (measure f a) ops _ (record { random = true; value = v }) _ _ r (rw (q, e)) (w.replays _ lent later (cc))

-- a fixed measurement that did not disagree
agreed : (line m : ℕ) (v w : Bool) (rest : Weighed) → cond (v ⊕ w) (impossible line) rest ≡ possible m → (w ≡ v) × (rest ≡ possible m)
agreed line m true true rest h = (refl, h)
agreed line m false false rest h = (refl, h)
agreed line m true false rest h = absurd (let z : ◌≡◌ {A = ℕ} 0 1 = cc in omega arith)
agreed line m false true rest h = absurd (let z : ◌≡◌ {A = ℕ} 0 1 = cc in omega arith)

pub replayed : (n line : ℕ) (ops : List Op) (t : Rows) (r : List Bool) (k m : ℕ) → length r ≡ count_measured ops → weigh n line ops t r k ≡ possible m → Replayed n line ops t r k m
replayed n line [] t [] k m l h =
    let q : k ≡ m = cc in
    record {
      passed = omega (arith, q);
      replays = λ before lent later c. record { state = record { outcomes = before; rows = t; coins = lent }; ran = refl; values = sym (append-nil (readout_of before)) };
    }
replayed n line [] t (v ∷ r) k m l h = absurd (omega (arith, l))
replayed n line (apply g ∷ ops) t r k m l h =
    let w = replayed n (suc line) ops (gated g t) r k m (omega (arith, l)) h in
    record {
      passed = w.passed;
      replays = λ before lent later c. let x = w.replays before lent later c in record { state = x.state; ran = x.ran; values = x.values };
    }
replayed n line (measure f a ∷ ops) t [] k m l h = absurd (omega (arith, l))
replayed n line (measure f a ∷ ops) t (v ∷ r) k m l h = go (λ t k. replayed n (suc line) ops t r k m (omega (arith, l))) (random_row n a t) refl
  where
    go : ((t : Rows) (k : ℕ) → weigh n (suc line) ops t r k ≡ possible m → Replayed n (suc line) ops t r k m)
        → (o : Option ℕ) → random_row n a t ≡ o → Replayed n line (measure f a ∷ ops) t (v ∷ r) k m
    go ih (Some p) q = replayed_random n line f a ops t v r k m p q (ih (afterwards f a v (collapsed n a p v t)) (suc k) (rw (q, weigh) at h))
    go ih None q =
        let w = agreed line m v (fixed_value n a t) (weigh n (suc line) ops (afterwards f a v t) r k) (rw (q, weigh) at h) in
        replayed_fixed n line f a ops t v r k m q w.0 (ih (afterwards f a v t) k w.1)
