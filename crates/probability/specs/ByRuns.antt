-- A readout beside the runs of its text: which coins leave a record that holds it. Document 02, request h: "impossible exactly when no coin list gives that
-- outcome list". Assumes nothing.
use Rattle.std.specs.Prelude.{Bool, true, false, List, map, ◌≡◌, ℕ, length}
use Rattle.answers.specs.Verdict.{accepted}
use Rattle.clifford.specs.Run.{coin}
use Rattle.records.specs.Record.{outcome_of, longest_record}
use Rattle.records.specs.Reading.{outcome_part}
use Rattle.run.specs.Run.{Sheet, run_of}
use Rattle.readouts.specs.Readouts.{impossible}
use Rattle.probability.specs.Probability.{probability_of}

-- the character that states a value
abbrev pub value_byte : Bool → ℕ
value_byte false = 48
value_byte true = 49

-- the readout that a record holds: the value of each outcome character, the kinds left out
abbrev pub readout_in : List ℕ → List ℕ
readout_in bytes = map (λ b. value_byte (outcome_of b).value) (outcome_part bytes)

-- the run of the text with these coins, lent so much room, leaves a record that holds this readout
pub record LeavesReadout (text coins : List ℕ) (room : ℕ) (stated : List ℕ) : Type 0 where
  pub sheet : Sheet
  pub is : run_of text coins room ≡ accepted sheet
  pub holds : readout_in sheet.bytes ≡ stated

-- of the coin lists of length k exactly one leaves it, in room for the longest record: only the lowest bits of coins count, and these are the bits of the one
pub record OneLeaves (text : List ℕ) (k : ℕ) (stated : List ℕ) : Type 0 where
  pub bits : List Bool
  pub many : length bits ≡ k
  pub leaves : (coins : List ℕ) → map coin coins ≡ bits → LeavesReadout text coins longest_record stated
  pub alone : (coins : List ℕ) (room : ℕ) → length coins ≡ k → LeavesReadout text coins room stated → map coin coins ≡ bits

-- it is told to be impossible
pub record RuledOut (text stated : List ℕ) : Type 0 where
  pub line : ℕ
  pub is : probability_of text stated ≡ accepted (impossible line)
