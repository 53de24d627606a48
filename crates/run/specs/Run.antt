-- The run of a circuit text with lent coins and a record buffer: document 01, order of refusals 1 to 6, then 8, then 7. Assumes nothing.
use Rattle.std.specs.Prelude.{List, [], ◌∷◌, ◌≡◌, ℕ, leb, length, drop, Result}
use Rattle.answers.specs.Verdict.{Verdict, accepted, refused, then, unless, over}
use Rattle.clifford.specs.Run.{State, begin, run}
use Rattle.circuit.specs.Text.{Circuit, meaning, count_measured}
use Rattle.records.specs.Record.{record_of, record_length}
use Rattle.tally.specs.declared.Tally.{Tally}
use Rattle.tally.specs.Tally.{tally_of}
use Rattle.answers.specs.declared.Refusal.{Refusal}
use Rattle.answers.specs.Refusals.{told}
use Rattle.run.specs.declared.Ran.{Ran}

-- what an accepted run answers: the record, and the tally
pub record Sheet : Type 0 where
  pub bytes : List ℕ
  pub tally : Tally

-- the sheet of a run that was lent these coins and has come to its end
abbrev pub sheet : ℕ → List ℕ → State → Sheet
sheet n coins e = record { bytes = record_of n e.outcomes e.rows; tally = tally_of coins e }

-- the operations' rules, one after the other, from the start tableau; the first operation stands on line 2
unfoldable pub run_circuit : Circuit → List ℕ → Verdict Sheet
run_circuit c coins = then (run c.qubits 2 c.ops (begin c.qubits coins)) (λ e. accepted (sheet c.qubits coins e))

-- 1 to 6 as the check gives them, then 8, then 7
unfoldable pub run_of : List ℕ → List ℕ → ℕ → Verdict Sheet
run_of text coins room =
    then (meaning text) (λ c. unless (leb (record_length c.qubits (count_measured c.ops)) room) 8 0 (run_circuit c coins))

-- what is answered of a sheet: the record's length, and the tally
abbrev pub ran_of : Verdict Sheet → Verdict Ran
ran_of v = then v (λ s. accepted (record { size = length s.bytes; tally = s.tally }))

-- the same in numbers: number, place, the record's length, and the three counters; where a number is answered, a refusal gives zero
abbrev pub numbers : Verdict Ran → List ℕ
numbers (accepted r) = 0 ∷ 0 ∷ r.size ∷ r.tally.measured ∷ r.tally.random ∷ r.tally.taken ∷ []
numbers (refused number place) = number ∷ place ∷ 0 ∷ 0 ∷ 0 ∷ 0 ∷ []

-- the unused rest: the lent coins without their first so many as were taken; when refused, all of them
abbrev pub rest_of : Verdict Sheet → List ℕ → List ℕ
rest_of (accepted s) coins = drop s.tally.taken coins
rest_of (refused number place) coins = coins

-- a refused run writes nothing
abbrev pub buffer_after : Verdict Sheet → List ℕ → List ℕ
buffer_after (accepted s) old = over s.bytes old
buffer_after (refused number place) old = old

-- what a run promises of its answer, of the coins it hands back and of the lent buffer
pub record Runs (text coins old : List ℕ) (answer : Result Ran Refusal) (rest new : List ℕ) : Type 0 where
  pub answers : told answer ≡ ran_of (run_of text coins (length old))
  pub hands_back : rest ≡ rest_of (run_of text coins (length old)) coins
  pub buffer : new ≡ buffer_after (run_of text coins (length old)) old
