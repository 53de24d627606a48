-- Readouts and coin lists: which coins give a readout, all coin strings of a length, and what it is that readouts are listed each once. Assumes nothing.
use Rattle.std.specs.Prelude.{Bool, true, false, List, [], ◌∷◌, ◌++◌, map, ◌≡◌, ℕ, zero, suc, ◌^◌, ◌<◌, length, get_or}
use Rattle.answers.specs.Verdict.{accepted, refused}
use Rattle.clifford.specs.declared.Outcome.{Outcome}
use Rattle.clifford.specs.Run.{State, coin, begin, run}
use Rattle.circuit.specs.Text.{Circuit, count_measured}
use Rattle.tally.specs.Tally.{one_if}
use Rattle.readouts.specs.Readouts.{possible, impossible, weigh_circuit}

-- the readout of outcomes: their values in order
abbrev pub readout_of : List Outcome → List Bool
readout_of outcomes = map (λ o. o.value) outcomes

-- the run with these coins is accepted and gives this readout
pub record Gives (c : Circuit) (coins : List ℕ) (readout : List Bool) : Type 0 where
  pub state : State
  pub ran : run c.qubits 2 c.ops (begin c.qubits coins) ≡ accepted state
  pub values : readout_of state.outcomes ≡ readout

-- a readout of the circuit, one value for each measurement, that is possible with k random measurements passed
pub record IsPossible (c : Circuit) (k : ℕ) (readout : List Bool) : Type 0 where
  pub long : length readout ≡ count_measured c.ops
  pub is : weigh_circuit c readout ≡ possible k

-- a readout that is impossible, and the line that says so
pub record IsImpossible (c : Circuit) (readout : List Bool) : Type 0 where
  pub line : ℕ
  pub is : weigh_circuit c readout ≡ impossible line

-- of the coin lists of length k exactly one gives the readout: only the lowest bits of coins count, and these are the bits of the one
pub record OneGives (c : Circuit) (k : ℕ) (readout : List Bool) : Type 0 where
  pub bits : List Bool
  pub many : length bits ≡ k
  pub gives : (coins : List ℕ) → map coin coins ≡ bits → Gives c coins readout
  pub alone : (coins : List ℕ) → length coins ≡ k → Gives c coins readout → map coin coins ≡ bits

-- all coin strings of length k, in the order of binary numbers, the first coin highest
abbrev pub strings : ℕ → List (List Bool)
strings zero = [] ∷ []
strings (suc k) = map (◌∷◌ false) (strings k) ++ map (◌∷◌ true) (strings k)

-- the readout that a coin string gives, each of its coins a byte 0 or 1
abbrev pub given : Circuit → List Bool → List Bool
given c string = elim (run c.qubits 2 c.ops (begin c.qubits (map one_if string))) [ accepted s ↦ readout_of s.outcomes | refused number place ↦ [] ]

-- a place of a list where x stands
pub record PlaceOf {A : Type 0} (all : List A) (other x : A) : Type 0 where
  pub place : ℕ
  pub within : place < length all
  pub is : get_or all place other ≡ x

-- the readouts that have the property stand in the list, each once, and nothing else does
pub record EachOnce (P : List Bool → Type 0) (all : List (List Bool)) : Type 0 where
  pub there : (r : List Bool) → P r → PlaceOf all [] r
  pub only : (i : ℕ) → i < length all → P (get_or all i [])
  pub once : (i j : ℕ) → i < length all → j < length all → get_or all i [] ≡ get_or all j [] → i ≡ j

-- the possible readouts of a circuit: all have one k, there are exactly 2 to the k, and in the order of the coin strings these are they
pub record ListedByCoins (c : Circuit) : Type 0 where
  pub k : ℕ
  pub one_k : (m : ℕ) (r : List Bool) → IsPossible c m r → m ≡ k
  pub many : length (map (given c) (strings k)) ≡ 2 ^ k
  pub each : EachOnce (IsPossible c k) (map (given c) (strings k))
