-- What a run prints, and what the program `shot` prints: document 01, its last example. Assumes nothing.
use Rattle.std.specs.Prelude.{cond, List, [], ◌∷◌, ◌++◌, ℕ, suc, ◌*◌, ◌+◌, eqb, ltb, length, Result}
use Rattle.limits.specs.Limits.{most_qubits, most_operations}
use Rattle.answers.specs.Verdict.{Verdict, accepted, refused, then}
use Rattle.answers.specs.declared.Refusal.{Refusal}
use Rattle.pauli.specs.Rows.{Row}
use Rattle.pauli.specs.Texts.{listed, row_text}
use Rattle.clifford.specs.declared.Op.{Op}
use Rattle.clifford.specs.declared.Op.TheVariants.{Gate as apply, Measure as measure}
use Rattle.clifford.specs.Tableau.{Rows}
use Rattle.clifford.specs.declared.Outcome.{Outcome}
use Rattle.clifford.specs.Run.{State, run, begin}
use Rattle.circuit.specs.Lines.{end_byte}
use Rattle.circuit.specs.Text.{Circuit, meaning}
use Rattle.records.specs.Record.{joined}
use Rattle.run.specs.declared.Ran.{Ran}
use Rattle.run.specs.Run.{Runs}
use Rattle.print_lines.specs.Line.{outcome_line, refusal_line}

-- the operations in order, the first of them on this line: each measurement takes the next outcome
abbrev pub outcome_lines : ℕ → List Op → List Outcome → List ℕ
outcome_lines line [] outcomes = []
outcome_lines line (apply g ∷ ops) outcomes = outcome_lines (suc line) ops outcomes
outcome_lines line (measure f a ∷ ops) [] = []
outcome_lines line (measure f a ∷ ops) (o ∷ outcomes) = outcome_line line a o ++ outcome_lines (suc line) ops outcomes

abbrev pub row_line : ℕ → Row → List ℕ
row_line n r = row_text n r ++ (end_byte ∷ [])

-- the 2n rows in order, destabilizers first
unfoldable pub row_lines : ℕ → Rows → List ℕ
row_lines n t = joined (listed (λ i. row_line n (t.destabilizer i)) n) ++ joined (listed (λ i. row_line n (t.stabilizer i)) n)

-- a run that has come to its end; its first operation stands on line 2
abbrev pub run_lines : Circuit → State → List ℕ
run_lines c e = outcome_lines 2 c.ops e.outcomes ++ row_lines c.qubits e.rows

-- the lines, or the line of the refusal
abbrev pub or_refusal : Verdict (List ℕ) → List ℕ
or_refusal (accepted lines) = lines
or_refusal (refused number place) = refusal_line number place

-- 1 to 6 as the check gives them, then 7; there is no record buffer, so 8 does not occur
unfoldable pub printed : List ℕ → List ℕ → List ℕ
printed text coins = or_refusal (then (meaning text) (λ c. then (run c.qubits 2 c.ops (begin c.qubits coins)) (λ e. accepted (run_lines c e))))

-- the run's own promise, but for the rest of the coins, which is not handed back
pub record Recorded (text coins old : List ℕ) (answer : Result Ran Refusal) (new : List ℕ) : Type 0 where
  pub rest : List ℕ
  pub runs : Runs text coins old answer rest new

-- the longest printed text: 4,096 outcome lines of 18 bytes, and 256 rows of 130 with their end bytes
abbrev pub longest_text : ℕ
longest_text = 18 * most_operations + 2 * most_qubits * (most_qubits + 2)

-- what stands before the first end byte, which is left off
abbrev pub first_line : List ℕ → List ℕ
first_line [] = []
first_line (b ∷ s) = cond (eqb b end_byte) [] (b ∷ first_line s)

-- what stands behind it; without an end byte, nothing
abbrev pub behind_first_line : List ℕ → List ℕ
behind_first_line [] = []
behind_first_line (b ∷ s) = cond (eqb b end_byte) s (behind_first_line s)

abbrev pub most_input : ℕ
most_input = 60000

-- `input too long`
abbrev pub too_long : List ℕ
too_long = 105 ∷ 110 ∷ 112 ∷ 117 ∷ 116 ∷ 32 ∷ 116 ∷ 111 ∷ 111 ∷ 32 ∷ 108 ∷ 111 ∷ 110 ∷ 103 ∷ end_byte ∷ []

-- one line of coin characters, then the circuit
unfoldable pub shot_printed : List ℕ → List ℕ
shot_printed input = cond (ltb most_input (length input)) too_long (printed (behind_first_line input) (first_line input))
