-- A readout is impossible exactly when no coin list gives it, and one that is possible with k random measurements passed is given by exactly
-- one of the coin lists of length k; k is the number of random outcomes of each run that gives it. Assumes nothing.
use mathlib.Core.Path.{◌≡◌, refl, sym, ◌∙◌, ap, ap₂}
use mathlib.Core.Bool.{Bool, true, false}
use mathlib.Core.List.{List, [], ◌∷◌, ◌++◌, map, append-nil}
use Prim.Native.Nat.{ℕ}
use native.Mathlib.Omega.{arith}
use lib.ListN.{length, length-append, length-map}
use Rattle.clifford.specs.Tableau.{start}
use Rattle.clifford.specs.Run.{coin, begin}
use Rattle.circuit.specs.Text.{Circuit, count_measured}
use Rattle.tally.specs.Tally.{one_if, randoms}
use Rattle.tally.proofs.Tallies.{Paid, run_pays}
use Rattle.readouts.specs.Readouts.{Weighed, possible, impossible, weigh_circuit}
use Rattle.readouts.specs.Coins.{Gives, IsPossible, IsImpossible, OneGives}
use Rattle.readouts.proofs.Weighing.{coins_of, Followed, followed, Replayed, replayed}

-- the coins that a readout of the circuit states
abbrev pub coins_for : Circuit → List Bool → List Bool
coins_for c r = coins_of c.qubits c.ops (start c.qubits) r

-- bytes with these bits
pub as_bytes : (bits : List Bool) → map coin (map one_if bits) ≡ bits
as_bytes [] = refl
as_bytes (b ∷ bits) = ap₂ (λ x l. x ∷ l) (bit b) (as_bytes bits)
  where
    bit : (b : Bool) → coin (one_if b) ≡ b
    bit true = refl
    bit false = refl

-- where nothing is left over
pub none_over : (all front rest : List Bool) → all ≡ front ++ rest → length all ≡ length front → all ≡ front
none_over all front [] e l = e ∙ append-nil front
none_over all front (b ∷ rest) e l = absurd (omega (arith, ap length e, length-append front (b ∷ rest)))

-- what is given is possible, and its coins were taken
pub record GivenBy (c : Circuit) (coins : List ℕ) (r : List Bool) (left : List ℕ) : Type 0 where
  pub long : length r ≡ count_measured c.ops
  pub weighs : weigh_circuit c r ≡ possible (length (coins_for c r))
  pub taken : map coin coins ≡ coins_for c r ++ map coin left

pub given_by : (c : Circuit) (coins : List ℕ) (r : List Bool) (g : Gives c coins r) → GivenBy c coins r g.state.coins
given_by c coins r g = go (followed c.qubits 2 c.ops (begin c.qubits coins) g.state g.ran)
  where
    go : Followed c.qubits 2 c.ops (begin c.qubits coins) g.state → GivenBy c coins r g.state.coins
    go w =
        let e : r ≡ w.readout = sym g.values ∙ w.values in
        rw e (record { long = w.long; weighs = w.weighs 0 ∙ ap possible (omega arith); taken = w.taken })

-- what is possible has k coins, and they give it, whatever coins come after them
pub record GivenWith (c : Circuit) (k : ℕ) (r : List Bool) : Type 0 where
  pub many : length (coins_for c r) ≡ k
  pub gives : (coins : List ℕ) (later : List Bool) → map coin coins ≡ coins_for c r ++ later → Gives c coins r

pub given_with : (c : Circuit) (k : ℕ) (r : List Bool) → IsPossible c k r → GivenWith c k r
given_with c k r p = go (replayed c.qubits 2 c.ops (start c.qubits) r 0 k p.long p.is)
  where
    go : Replayed c.qubits 2 c.ops (start c.qubits) r 0 k → GivenWith c k r
    go w = record {
      many = omega (arith, w.passed);
      gives = λ coins later e. let x = w.replays [] coins later e in record { state = x.state; ran = x.ran; values = x.values };
    }

-- the coins of a possible readout alone, as bytes
pub own_coins : (c : Circuit) (k : ℕ) (r : List Bool) → IsPossible c k r → Gives c (map one_if (coins_for c r)) r
own_coins c k r p = (given_with c k r p).gives (map one_if (coins_for c r)) [] (as_bytes (coins_for c r) ∙ sym (append-nil (coins_for c r)))

pub impossible_none : (c : Circuit) (r : List Bool) → IsImpossible c r → (coins : List ℕ) → Gives c coins r → ⊥
impossible_none c r i coins g =
    let q : impossible i.line ≡ possible (length (coins_for c r)) = sym i.is ∙ (given_by c coins r g).weighs in
    let z : ◌≡◌ {A = ℕ} 0 1 = cc in
    omega arith

pub none_impossible : (c : Circuit) (r : List Bool) → length r ≡ count_measured c.ops → ((coins : List ℕ) → Gives c coins r → ⊥) → IsImpossible c r
none_impossible c r l h = go (weigh_circuit c r) refl
  where
    go : (w : Weighed) → weigh_circuit c r ≡ w → IsImpossible c r
    go (possible k) e = absurd (h (map one_if (coins_for c r)) (own_coins c k r (record { long = l; is = e })))
    go (impossible line) e = record { line = line; is = e }

pub possible_one : (c : Circuit) (k : ℕ) (r : List Bool) → IsPossible c k r → OneGives c k r
possible_one c k r p =
    let w = given_with c k r p in
    record {
      bits = coins_for c r;
      many = w.many;
      gives = λ coins e. w.gives coins [] (e ∙ sym (append-nil (coins_for c r)));
      alone = λ coins l g. none_over (map coin coins) (coins_for c r) (map coin g.state.coins) (given_by c coins r g).taken (length-map coins coin ∙ l ∙ sym w.many);
    }

-- k is what the run itself counts: the random ones among its outcomes
pub possible_randoms : (c : Circuit) (k : ℕ) (r : List Bool) → IsPossible c k r → (coins : List ℕ) (g : Gives c coins r) → randoms g.state.outcomes ≡ k
possible_randoms c k r p coins g = go (rw g.ran at (run_pays c.qubits 2 c.ops (begin c.qubits coins)))
  where
    go : Paid (begin c.qubits coins) g.state → randoms g.state.outcomes ≡ k
    go q =
        let t = ap length (given_by c coins r g).taken in
        omega (arith, t, q.balance, length-append (coins_for c r) (map coin g.state.coins), length-map g.state.coins coin, length-map coins coin, (given_with c k r p).many)
