-- What the parts of a walk over the operation lines promise one another: a measurement, one line, and all lines. Assumes nothing.
use Rattle.std.specs.Prelude.{Bool, true, false, cond, List, [], ◌∷◌, map, ◌≡◌, ℕ, ◌≤◌, ◌<◌, length, take, drop}
use Rattle.std.specs.Prelude.{Option, None, Some, Result, Ok, Err}
use Rattle.limits.specs.Limits.{most_operations}
use Rattle.answers.specs.Verdict.{Verdict, accepted, refused}
use Rattle.clifford.specs.declared.One.TheVariants.{PauliX}
use Rattle.clifford.specs.declared.Gate.TheVariants.{One as one}
use Rattle.clifford.specs.declared.After.{After}
use Rattle.clifford.specs.declared.After.TheVariants.{Keep, Reset}
use Rattle.clifford.specs.declared.Op.{Op}
use Rattle.clifford.specs.declared.Op.TheVariants.{Measure as measure}
use Rattle.clifford.specs.Tableau.{Rows, start, gated}
use Rattle.clifford.specs.declared.Outcome.{Outcome}
use Rattle.clifford.specs.Measurement.{random_row, collapsed, fixed_value}
use Rattle.clifford.specs.Run.{State, begin, coin, afterwards, step, run}
use Rattle.circuit.specs.Lines.{op_line}
use Rattle.circuit.specs.Parts.Reading.{Stands}
use Rattle.circuit.specs.Text.{all_below, apart, operations}
use Rattle.packing.specs.declared.Packed.{Packed}
use Rattle.packing.specs.View.{rows_of, Holds}
use Rattle.records.specs.Record.{mark}
use Rattle.walking.specs.declared.Stop.{Stop}
use Rattle.walking.specs.declared.Stop.TheVariants.{NoCoin, Refused}
use Rattle.walking.specs.declared.BrokenOff.{BrokenOff}
use Rattle.walking.specs.declared.Walk.{Walk}
use Rattle.tally.specs.declared.Tally.{Tally}
use Rattle.tally.specs.Tally.{tally_of}
use Rattle.tally.specs.Parts.Stepping.{none_yet}

-- what follows a measurement, by whether it resets
abbrev pub following : Bool → After
following resets = cond resets Reset Keep

-- X on a, where it is applied
abbrev pub flipped : ℕ → Bool → Rows → Rows
flipped a applies t = cond applies (gated (one PauliX a) t) t

-- a fixed measurement, and what follows it
pub record Fixed (n : ℕ) (f : After) (a : ℕ) (t : Rows) (value : Bool) (t' : Rows) : Type 0 where
  pub kind : random_row n a t ≡ None
  pub is : value ≡ fixed_value n a t
  pub after : t' ≡ afterwards f a value t

-- a random one with a coin, and what follows it
pub record Random (n : ℕ) (f : After) (a : ℕ) (t : Rows) (coins : List ℕ) (value : Bool) (t' : Rows) : Type 0 where
  pub row : ℕ
  pub byte : ℕ
  pub left : List ℕ
  pub kind : random_row n a t ≡ Some row
  pub coins_are : coins ≡ byte ∷ left
  pub is : value ≡ coin byte
  pub after : t' ≡ afterwards f a value (collapsed n a row value t)

-- a random one that finds no coin
pub record Dry (n a : ℕ) (t : Rows) (coins : List ℕ) : Type 0 where
  pub row : ℕ
  pub kind : random_row n a t ≡ Some row
  pub none_left : coins ≡ []

abbrev pub ShotIs : ℕ → After → ℕ → Rows → List ℕ → Bool → Bool → Rows → Type 0
ShotIs n f a t coins false value t' = Fixed n f a t value t'
ShotIs n f a t coins true value t' = Random n f a t coins value t'

abbrev pub ShotOf : ℕ → After → ℕ → Rows → List ℕ → Option Outcome → Rows → Type 0
ShotOf n f a t coins None t' = Dry n a t coins
ShotOf n f a t coins (Some o) t' = ShotIs n f a t coins o.random o.value t'

-- what a measurement on packed rows comes to
pub record ShotAs (f : After) (a : ℕ) (r : Packed) (coins : List ℕ) (o : Option Outcome) (r' : Packed) : Type 0 where
  pub same : r'.qubits ≡ r.qubits
  pub is : ShotOf r.qubits f a (rows_of r.qubits r.words) coins o (rows_of r.qubits r'.words)

-- a state of the run as the walk holds it: its rows in words, its outcomes as characters, the coins that are left behind those taken, and the tally
pub record View (n : ℕ) (coins : List ℕ) (e : State) (words marks : List ℕ) (t : Tally) : Type 0 where
  pub holds : Holds n words
  pub room : length marks ≡ most_operations
  pub rows_are : e.rows ≡ rows_of n words
  pub count : t.measured ≡ length e.outcomes
  pub marks_are : map mark e.outcomes ≡ take t.measured marks
  pub tally_is : t ≡ tally_of coins e
  pub coins_are : e.coins ≡ drop t.taken coins
  pub enough : t.taken ≤ length coins

-- an operation took the state to another
pub record Went (n : ℕ) (coins : List ℕ) (v : Verdict State) (words marks : List ℕ) (t : Tally) : Type 0 where
  pub state : State
  pub is : v ≡ accepted state
  pub view : View n coins state words marks t

-- the line at this position is allowed and done, and the next one stands behind it
pub record Goes (text : List ℕ) (at n : ℕ) (coins words marks : List ℕ) (t : Tally) (next : ℕ) (words' marks' : List ℕ) (t' : Tally) : Type 0 where
  pub op : Op
  pub stands : Stands op_line text at op next
  pub below : all_below n op ≡ true
  pub parted : apart op ≡ true
  pub goes : (line : ℕ) (e : State) → View n coins e words marks t → Went n coins (step n line op e) words' marks' t'

-- it is a random measurement that finds no coin
pub record Stops (text : List ℕ) (at n : ℕ) (coins words marks : List ℕ) (t : Tally) : Type 0 where
  pub op : Op
  pub next : ℕ
  pub stands : Stands op_line text at op next
  pub stops : (line : ℕ) (e : State) → View n coins e words marks t → step n line op e ≡ refused 7 line

-- why it is not done: a coin is missing, or the line is refused
abbrev pub NotDone : List ℕ → ℕ → ℕ → List ℕ → List ℕ → List ℕ → Tally → Stop → Type 0
NotDone text at n coins words marks t NoCoin = Stops text at n coins words marks t
NotDone text at n coins words marks t Refused = at < length text → (room line : ℕ) (ops : List Op) → operations n room line (drop at text) ≡ accepted ops → ⊥

abbrev pub StepAs : List ℕ → ℕ → List ℕ → Walk → Result ℕ Stop → Walk → Type 0
StepAs text at coins w (Ok next) w' = (w'.rows.qubits ≡ w.rows.qubits) × Goes text at w.rows.qubits coins w.rows.words w.marks w.tally next w'.rows.words w'.marks w'.tally
StepAs text at coins w (Err why) w' = NotDone text at w.rows.qubits coins w.rows.words w.marks w.tally why

-- the counters have room for one more
pub record HasRoom (coins : List ℕ) (t : Tally) : Type 0 where
  pub measured : t.measured < most_operations
  pub random : t.random < most_operations
  pub taken : t.taken < most_operations
  pub enough : t.taken ≤ length coins

-- the measurement of a
abbrev pub MeasureAs : After → ℕ → List ℕ → Walk → Option (Unit {0}) → Walk → Type 0
MeasureAs f a coins w (Some done) w' =
    (w'.rows.qubits ≡ w.rows.qubits)
    × ((line : ℕ) (e : State) → View w.rows.qubits coins e w.rows.words w.marks w.tally → Went w.rows.qubits coins (step w.rows.qubits line (measure f a) e) w'.rows.words w'.marks w'.tally)
MeasureAs f a coins w None w' = (line : ℕ) (e : State) → View w.rows.qubits coins e w.rows.words w.marks w.tally → step w.rows.qubits line (measure f a) e ≡ refused 7 line

abbrev pub or_none : Verdict (List Op) → List Op
or_none (accepted ops) = ops
or_none (refused number place) = []

-- the operations of an accepted text whose operation lines begin at body
abbrev pub lines_of : ℕ → ℕ → List ℕ → List Op
lines_of n body text = or_none (operations n most_operations 2 (drop body text))

-- the walk came to the end of the text, which is thereby accepted
pub record Ended (text : List ℕ) (body n : ℕ) (coins words marks : List ℕ) (t : Tally) : Type 0 where
  pub state : State
  pub lines : operations n most_operations 2 (drop body text) ≡ accepted (lines_of n body text)
  pub is : run n 2 (lines_of n body text) (begin n coins) ≡ accepted state
  pub view : View n coins state words marks t

-- it came to a line that goes no further: if the text is accepted all the same, it is for want of a coin
abbrev pub Stuck : List ℕ → ℕ → ℕ → List ℕ → ℕ → Type 0
Stuck text body n coins line = operations n most_operations 2 (drop body text) ≡ accepted (lines_of n body text) → run n 2 (lines_of n body text) (begin n coins) ≡ refused 7 line

abbrev pub WalkAs : List ℕ → ℕ → List ℕ → ℕ → Result (Unit {0}) BrokenOff → Walk → Type 0
WalkAs text body coins n (Ok done) w = Ended text body n coins w.rows.words w.marks w.tally
WalkAs text body coins n (Err b) w = Stuck text body n coins b.line

-- where the walk may begin: with the start rows of n qubits, and nothing counted
pub record Walkable (n : ℕ) (w : Walk) : Type 0 where
  pub same : w.rows.qubits ≡ n
  pub from_start : rows_of n w.rows.words ≡ start n
  pub nothing : w.tally ≡ none_yet
