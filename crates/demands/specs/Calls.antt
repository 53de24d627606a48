-- A call of the run, seen from outside: what it was lent, what it answered, handed back and left in the buffer. Assumes nothing.
use Rattle.std.specs.Prelude.{Bool, List, [], ◌∷◌, ◌≡◌, ℕ, ◌+◌, get_or, take, drop, length, Result}
use Rattle.answers.specs.declared.Refusal.{Refusal}
use Rattle.answers.specs.Refusals.{told}
use Rattle.records.specs.Record.{outcome_of}
use Rattle.records.specs.Reading.{outcome_part}
use Rattle.run.specs.declared.Ran.{Ran}
use Rattle.run.specs.Run.{numbers, Runs}
use Rattle.tally.specs.Tally.{one_if}

-- a call with this circuit that keeps the run's promise
pub record Call (text : List ℕ) : Type 0 where
  pub coins : List ℕ
  pub old : List ℕ
  pub got : Result Ran Refusal
  pub rest : List ℕ
  pub new : List ℕ
  pub keeps : Runs text coins old got rest new

module _ {text : List ℕ} (p : Call text) where
  -- what it answers, in numbers
  abbrev pub told_numbers : List ℕ
  told_numbers = numbers (told p.got)

  -- the refusal's number, 0 when accepted; the record's length; how many were measured, random, taken
  abbrev pub number_told : ℕ
  number_told = get_or told_numbers 0 0

  abbrev pub size_told : ℕ
  size_told = get_or told_numbers 2 0

  abbrev pub measured_told : ℕ
  measured_told = get_or told_numbers 3 0

  abbrev pub random_told : ℕ
  random_told = get_or told_numbers 4 0

  abbrev pub taken_told : ℕ
  taken_told = get_or told_numbers 5 0

  -- the record that stands at the buffer's front
  abbrev pub written : List ℕ
  written = take size_told p.new

-- how many bytes pass the test
abbrev pub how_many : (ℕ → Bool) → List ℕ → ℕ
how_many f [] = 0
how_many f (b ∷ s) = one_if (f b) + how_many f s

-- the tally of an accepted call, said of the bytes of its record and of the coins: as many measured as the record has outcome characters, as many random as
-- there are `2` and `3` among them, as many coins taken, and the rest is the lent coins without these
pub record Tallied {text : List ℕ} (p : Call text) : Type 0 where
  pub measured : measured_told p ≡ length (outcome_part (written p))
  pub random : random_told p ≡ how_many (λ b. (outcome_of b).random) (outcome_part (written p))
  pub taken : taken_told p ≡ random_told p
  pub rest : p.rest ≡ drop (taken_told p) p.coins
