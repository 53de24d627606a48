-- What the parts of a pass over a whole text promise one another: one line, the number of lines, line 1. Assumes nothing.
use Rattle.std.specs.Prelude.{List, ◌≡◌, ℕ, ◌+◌, ◌≤◌, length, drop, Result, Ok, Err}
use Rattle.limits.specs.Limits.{most_qubits, most_operations}
use Rattle.answers.specs.Verdict.{Verdict, accepted, refused}
use Rattle.answers.specs.declared.Refusal.{Refusal}
use Rattle.answers.specs.Refusals.{number_of, place_of}
use Rattle.clifford.specs.declared.Op.{Op}
use Rattle.checking.specs.declared.Counts.{Counts}
use Rattle.checking.specs.declared.Heading.{Heading}
use Rattle.checking.specs.declared.Scanned.{Scanned}
use Rattle.checking.specs.declared.Turn.{Turn}
use Rattle.circuit.specs.Lines.{Found, found, malformed, op_line}
use Rattle.circuit.specs.Text.{Circuit, checked, operations, header, meaning, measures, count_measured}
use Rattle.circuit.specs.Parts.Reading.{Stands}

-- in a line 3, 4, 5
abbrev pub line_verdict : ℕ → ℕ → Found Op → Verdict Op
line_verdict n line (found op rest) = checked n line op
line_verdict n line malformed = refused 3 line

-- one line, read and checked
pub record Passes (s : List ℕ) (at n line next measured : ℕ) : Type 0 where
  pub op : Op
  pub stands : Stands op_line s at op next
  pub allowed : checked n line op ≡ accepted op
  pub measured_is : measured ≡ measures op

abbrev pub TurnAt : List ℕ → ℕ → ℕ → ℕ → Result Turn Refusal → Type 0
TurnAt s at n line (Ok t) = Passes s at n line t.next t.measured
TurnAt s at n line (Err r) = line_verdict n line (op_line (drop at s)) ≡ refused (number_of r) (place_of r)

-- the counts of these operations, with so many before them
abbrev pub added : ℕ → ℕ → List Op → Counts
added count measured ops = record { operations = count + length ops; measured = measured + count_measured ops }

-- line 1 is read, and its number of qubits is allowed
pub record Headed (s : List ℕ) (n body : ℕ) : Type 0 where
  pub stands : Stands header s 0 n body
  pub some_qubits : 1 ≤ n
  pub few_qubits : n ≤ most_qubits

abbrev pub Heads : List ℕ → Result Heading Refusal → Type 0
Heads s (Ok h) = Headed s h.qubits h.body
Heads s (Err r) = meaning s ≡ refused (number_of r) (place_of r)

-- the text means this circuit, and its operation lines begin at body
pub record Accepts (s : List ℕ) (n count measured body : ℕ) : Type 0 where
  pub circuit : Circuit
  pub meant : meaning s ≡ accepted circuit
  pub qubits_is : n ≡ circuit.qubits
  pub operations_is : count ≡ length circuit.ops
  pub measured_is : measured ≡ count_measured circuit.ops
  pub header_is : header s ≡ found n (drop body s)
  pub within : body ≤ length s
  pub lines : operations n most_operations 2 (drop body s) ≡ accepted circuit.ops

abbrev pub Scans : List ℕ → Result Scanned Refusal → Type 0
Scans s (Ok c) = Accepts s c.qubits c.operations c.measured c.body
Scans s (Err r) = meaning s ≡ refused (number_of r) (place_of r)
