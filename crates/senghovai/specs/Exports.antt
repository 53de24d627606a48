-- What each exported function returns and writes into `answer`, from the definitions of the library: the number is the refusal's, 0 when accepted, and where
-- documents 01 and 02 answer a number, a refusal gives zero. Assumes nothing.
use Rattle.std.specs.Prelude.{List, [], ◌∷◌, ◌≡◌, ℕ, ◌-◌, length, drop}
use Rattle.answers.specs.Verdict.{Verdict, accepted, refused, then, within, after, counted}
use Rattle.archive.specs.Same.{Compared, compared, first_refused, second_refused}
use Rattle.checking.specs.declared.Size.{Size}
use Rattle.half.specs.Half.{half_bits}
use Rattle.readouts.specs.Readouts.{Weighed, possible, impossible}
use Rattle.records.specs.Reading.{Read}
use Rattle.tally.specs.Tally.{one_if}
use Rattle.run.specs.Run.{Sheet, run_of, buffer_after}

abbrev pub verdict_number : {A : Type 0} → Verdict A → ℕ
verdict_number (accepted a) = 0
verdict_number (refused number place) = number

-- place, n, operations
abbrev pub check_places : Verdict Size → List ℕ
check_places (accepted s) = 0 ∷ s.qubits ∷ s.operations ∷ []
check_places (refused number place) = place ∷ 0 ∷ 0 ∷ []

-- place, the record's length, coins left, measured, random, taken
abbrev pub run_places : List ℕ → Verdict Sheet → List ℕ
run_places coins (accepted s) = 0 ∷ length s.bytes ∷ length (drop s.tally.taken coins) ∷ s.tally.measured ∷ s.tally.random ∷ s.tally.taken ∷ []
run_places coins (refused number place) = place ∷ 0 ∷ length coins ∷ 0 ∷ 0 ∷ 0 ∷ []

-- what a run returns, answers and leaves in the buffer
pub record ExportsRun (circuit coins old : List ℕ) (number : ℕ) (answer new : List ℕ) : Type 0 where
  pub number_is : number ≡ verdict_number (run_of circuit coins (length old))
  pub answer_is : answer ≡ run_places coins (run_of circuit coins (length old))
  pub buffer : new ≡ buffer_after (run_of circuit coins (length old)) old

-- place, the record's length, n, where its outcomes start in the bytes, how many
abbrev pub read_places : List ℕ → Verdict Read → List ℕ
read_places bytes (accepted r) = 0 ∷ r.size ∷ r.qubits ∷ (length bytes - r.size) ∷ length r.marks ∷ []
read_places bytes (refused number place) = place ∷ 0 ∷ 0 ∷ 0 ∷ 0 ∷ []

-- place, length
abbrev pub write_places : Verdict ℕ → List ℕ
write_places (accepted count) = 0 ∷ count ∷ []
write_places (refused number place) = place ∷ 0 ∷ []

-- what a function that writes bytes returns, answers and leaves in the buffer
pub record ExportsWritten (v : Verdict (List ℕ)) (old : List ℕ) (number : ℕ) (answer new : List ℕ) : Type 0 where
  pub number_is : number ≡ verdict_number (counted (then v (within (length old))))
  pub answer_is : answer ≡ write_places (counted (then v (within (length old))))
  pub buffer : new ≡ after (then v (within (length old))) old

abbrev pub same_number : Compared → ℕ
same_number (compared b) = 0
same_number (first_refused number place) = number
same_number (second_refused number place) = number

-- which was refused (0, 1, 2), place, 1 when the same
abbrev pub same_places : Compared → List ℕ
same_places (compared b) = 0 ∷ 0 ∷ one_if b ∷ []
same_places (first_refused number place) = 1 ∷ place ∷ 0 ∷ []
same_places (second_refused number place) = 2 ∷ place ∷ 0 ∷ []

-- place, 1 when possible, k or the line that rules it out, the 64 bits of the double
abbrev pub chance_places : Verdict Weighed → List ℕ
chance_places (accepted (possible k)) = 0 ∷ 1 ∷ k ∷ half_bits k ∷ []
chance_places (accepted (impossible line)) = 0 ∷ 0 ∷ line ∷ 0 ∷ []
chance_places (refused number place) = place ∷ 0 ∷ 0 ∷ 0 ∷ []
