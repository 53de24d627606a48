-- What the parts of the printer promise one another: the lines of a run, as its record holds them. Assumes nothing.
use Rattle.std.specs.Prelude.{List, [], ◌++◌, map, ◌≡◌, ℕ, ◌+◌, ◌*◌, ◌≤◌, length, drop, Result, Ok, Err}
use Rattle.limits.specs.Limits.{most_qubits, most_operations}
use Rattle.answers.specs.Verdict.{accepted}
use Rattle.answers.specs.declared.Refusal.{Refusal}
use Rattle.answers.specs.Refusals.{number_of, place_of}
use Rattle.checking.specs.declared.Heading.{Heading}
use Rattle.clifford.specs.declared.Op.{Op}
use Rattle.clifford.specs.declared.Op.TheVariants.{Gate as apply, Measure as measure}
use Rattle.clifford.specs.declared.Outcome.{Outcome}
use Rattle.circuit.specs.Text.{operations, count_measured}
use Rattle.records.specs.Record.{outcome_of}
use Rattle.walking.specs.Parts.Walk.{lines_of}
use Rattle.print_lines.specs.Line.{outcome_line, refusal_line}
use Rattle.print_lines.specs.Rows.{parts_closed}
use Rattle.run.specs.declared.Ran.{Ran}
use Rattle.print.specs.Printed.{outcome_lines, printed, Recorded}

-- what an operation prints
abbrev pub op_text : ℕ → Op → Outcome → List ℕ
op_text line (apply g) o = []
op_text line (measure f a) o = outcome_line line a o

-- the lines of a record whose run had these operations
unfoldable pub sheet_lines : List Op → ℕ → List ℕ → List ℕ
sheet_lines ops n sheet = outcome_lines 2 ops (map outcome_of sheet) ++ parts_closed (n + 1) (drop (count_measured ops) sheet) (n + n)

-- an accepted text whose operation lines begin at body, and a record of its run
pub record Ready (text : List ℕ) (body n : ℕ) (sheet : List ℕ) : Type 0 where
  pub some_qubits : 1 ≤ n
  pub few_qubits : n ≤ most_qubits
  pub lines : operations n most_operations 2 (drop body text) ≡ accepted (lines_of n body text)
  pub room : count_measured (lines_of n body text) + (n + n) * (n + 1) ≤ length sheet

abbrev pub ReadyAs : List ℕ → Result Heading Refusal → List ℕ → Type 0
ReadyAs text (Ok h) sheet = Ready text h.body h.qubits sheet
ReadyAs text (Err r) sheet = Unit {0}

-- what is printed of a run, from its record; or of its refusal
abbrev pub answer_lines : List ℕ → Result Heading Refusal → List ℕ → List ℕ
answer_lines text (Ok h) sheet = sheet_lines (lines_of h.qubits h.body text) h.qubits sheet
answer_lines text (Err r) sheet = refusal_line (number_of r) (place_of r)

-- a run that answered this and left this record prints what these lines are
pub record Answered (text coins old : List ℕ) (answer : Result Ran Refusal) (ran : Result Heading Refusal) (sheet : List ℕ) : Type 0 where
  pub recorded : Recorded text coins old answer sheet
  pub ready : ReadyAs text ran sheet
  pub lines : printed text coins ≡ answer_lines text ran sheet
