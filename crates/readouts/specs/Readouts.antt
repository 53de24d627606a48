-- What a stated readout of a circuit comes to: document 02, request h. A readout has one value for each measurement, in order. Assumes nothing.
use Rattle.std.specs.Prelude.{Bool, cond, List, [], ◌∷◌, ℕ, suc}
use Rattle.std.specs.Prelude.{None, Some}
use Rattle.pauli.specs.Letters.{◌⊕◌}
use Rattle.clifford.specs.declared.Op.{Op}
use Rattle.clifford.specs.declared.Op.TheVariants.{Gate as apply, Measure as measure}
use Rattle.clifford.specs.Tableau.{Rows, start, gated}
use Rattle.clifford.specs.Measurement.{random_row, collapsed, fixed_value}
use Rattle.clifford.specs.Run.{afterwards}
use Rattle.circuit.specs.Text.{Circuit}

-- possible, with the number k of random measurements passed; or impossible, with the line of the first fixed measurement that disagrees
pub data Weighed : Type 0 where
  possible : (k : ℕ) → Weighed
  impossible : (line : ℕ) → Weighed

-- the operations in order, the first of them on this line, from these rows, with the values that are stated from here on and k random measurements passed:
-- a random measurement takes the stated value as its coin, and a fixed one has to agree with it. Request h asks beforehand for one value per measurement; here a
-- measurement without one counts as disagreeing, and values left over count for nothing.
abbrev pub weigh : ℕ → ℕ → List Op → Rows → List Bool → ℕ → Weighed
weigh n line [] t stated k = possible k
weigh n line (apply g ∷ ops) t stated k = weigh n (suc line) ops (gated g t) stated k
weigh n line (measure f a ∷ ops) t [] k = impossible line
weigh n line (measure f a ∷ ops) t (value ∷ stated) k =
    elim (random_row n a t) [
      | Some p ↦ weigh n (suc line) ops (afterwards f a value (collapsed n a p value t)) stated (suc k)
      | None ↦ cond (value ⊕ fixed_value n a t) (impossible line) (weigh n (suc line) ops (afterwards f a value t) stated k)
    ]

-- from the start tableau; the first operation stands on line 2
abbrev pub weigh_circuit : Circuit → List Bool → Weighed
weigh_circuit c stated = weigh c.qubits 2 c.ops (start c.qubits) stated 0
