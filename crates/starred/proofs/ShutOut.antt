-- Wrong programs, shut out by name: what the promises of the run, the check and the product force on inputs where each wrong program answers otherwise.
-- Assumes nothing.
use mathlib.Core.Path.{◌≡◌, ap}
use mathlib.Core.List.{List, [], ◌∷◌, ◌++◌}
use Prim.Native.Nat.{ℕ}
use lib.ListN.{take, replicate}
use Rattle.std.specs.Prelude.{Result}
use Rattle.answers.specs.declared.Refusal.{Refusal}
use Rattle.answers.specs.Verdict.{accepted}
use Rattle.answers.specs.Refusals.{told, Writes}
use Rattle.checking.specs.declared.Size.{Size}
use Rattle.checking.specs.Check.{check_of}
use Rattle.pauli.specs.Texts.{listed}
use Rattle.product.specs.Product.{product_of}
use Rattle.records.specs.Record.{low_first, joined, rows_text, trailer, record_with}
use Rattle.run.specs.declared.Ran.{Ran}
use Rattle.run.specs.Run.{numbers, run_circuit, run_of, Runs}

-- a buffer of so many zeros
abbrev pub zeros : ℕ → List ℕ
zeros n = replicate n 0

-- a refuser of everything: `Q 1` with 16 bytes lent is accepted
pub refuser_shut_out : (answer : Result Ran Refusal) (rest new : List ℕ) → Runs ((81 ∷ 32 ∷ 49 ∷ 10 ∷ [])) [] (zeros 16) answer rest new → numbers (told answer) ≡ 0 ∷ 0 ∷ 16 ∷ 0 ∷ 0 ∷ 0 ∷ []
unfolding listed low_first joined rows_text trailer record_with run_circuit run_of
refuser_shut_out answer rest new r = ap numbers r.answers

-- one that keeps the start tableau: after X the stabilizer is -Z
pub start_keeper_shut_out : (answer : Result Ran Refusal) (rest new : List ℕ) → Runs ((81 ∷ 32 ∷ 49 ∷ 10 ∷ 88 ∷ 32 ∷ 48 ∷ 10 ∷ [])) [] (zeros 16) answer rest new → take 4 new ≡ (43 ∷ 88 ∷ []) ++ (45 ∷ 90 ∷ [])
unfolding listed low_first joined rows_text trailer record_with run_circuit run_of
start_keeper_shut_out answer rest new r = ap (take 4) r.buffer

-- one that runs the first operation and copies the rest: after X twice it is +Z again
pub first_only_shut_out : (answer : Result Ran Refusal) (rest new : List ℕ) → Runs ((81 ∷ 32 ∷ 49 ∷ 10 ∷ 88 ∷ 32 ∷ 48 ∷ 10 ∷ 88 ∷ 32 ∷ 48 ∷ 10 ∷ [])) [] (zeros 16) answer rest new → take 4 new ≡ (43 ∷ 88 ∷ []) ++ (43 ∷ 90 ∷ [])
unfolding listed low_first joined rows_text trailer record_with run_circuit run_of
first_only_shut_out answer rest new r = ap (take 4) r.buffer

-- one with an invented tally: one measurement, none random, no coin taken; then one random, one coin
pub tally_shut_out : (answer : Result Ran Refusal) (rest new : List ℕ) → Runs ((81 ∷ 32 ∷ 49 ∷ 10 ∷ 77 ∷ 32 ∷ 48 ∷ 10 ∷ [])) (7 ∷ []) (zeros 17) answer rest new → numbers (told answer) ≡ 0 ∷ 0 ∷ 17 ∷ 1 ∷ 0 ∷ 0 ∷ []
unfolding listed low_first joined rows_text trailer record_with run_circuit run_of
tally_shut_out answer rest new r = ap numbers r.answers

pub coin_shut_out : (answer : Result Ran Refusal) (rest new : List ℕ) → Runs ((81 ∷ 32 ∷ 49 ∷ 10 ∷ 72 ∷ 32 ∷ 48 ∷ 10 ∷ 77 ∷ 32 ∷ 48 ∷ 10 ∷ [])) (7 ∷ 8 ∷ []) (zeros 17) answer rest new → (numbers (told answer) ≡ 0 ∷ 0 ∷ 17 ∷ 1 ∷ 1 ∷ 1 ∷ []) × (rest ≡ 8 ∷ [])
unfolding listed low_first joined rows_text trailer record_with run_circuit run_of
coin_shut_out answer rest new r = (ap numbers r.answers, r.hands_back)

-- one that writes before it is refused: without a coin the buffer holds its old bytes
pub early_writer_shut_out : (answer : Result Ran Refusal) (rest new : List ℕ) → Runs ((81 ∷ 32 ∷ 49 ∷ 10 ∷ 72 ∷ 32 ∷ 48 ∷ 10 ∷ 77 ∷ 32 ∷ 48 ∷ 10 ∷ [])) [] (zeros 17) answer rest new → (numbers (told answer) ≡ 7 ∷ 3 ∷ 0 ∷ 0 ∷ 0 ∷ 0 ∷ []) × (new ≡ zeros 17)
unfolding listed low_first joined rows_text trailer record_with run_circuit run_of
early_writer_shut_out answer rest new r = (ap numbers r.answers, r.buffer)

-- 7 before 8: a short buffer and no coin is 8
pub seven_first_shut_out : (answer : Result Ran Refusal) (rest new : List ℕ) → Runs ((81 ∷ 32 ∷ 49 ∷ 10 ∷ 72 ∷ 32 ∷ 48 ∷ 10 ∷ 77 ∷ 32 ∷ 48 ∷ 10 ∷ [])) [] (zeros 16) answer rest new → numbers (told answer) ≡ 8 ∷ 0 ∷ 0 ∷ 0 ∷ 0 ∷ 0 ∷ []
unfolding listed low_first joined rows_text trailer record_with run_circuit run_of
seven_first_shut_out answer rest new r = ap numbers r.answers

-- a check that answers a constant
pub constant_check_shut_out : (r s : Result Size Refusal) → told r ≡ check_of ((81 ∷ 32 ∷ 49 ∷ 10 ∷ [])) → told s ≡ check_of ((81 ∷ 32 ∷ 49 ∷ 10 ∷ 88 ∷ 32 ∷ 48 ∷ 10 ∷ [])) → (told r ≡ accepted (record { qubits = 1; operations = 0 })) × (told s ≡ accepted (record { qubits = 1; operations = 1 }))
constant_check_shut_out r s e f = (e, f)

-- a product that drops the sign: +XX times +ZZ is -YY
pub unsigned_product_shut_out : (r : Result ℕ Refusal) (new : List ℕ) → Writes (product_of ((43 ∷ 88 ∷ 88 ∷ [])) ((43 ∷ 90 ∷ 90 ∷ []))) (zeros 3) r new → (told r ≡ accepted 3) × (new ≡ (45 ∷ 89 ∷ 89 ∷ []))
unfolding listed
unsigned_product_shut_out r new w = (w.answer, w.buffer)
