-- The number and the place of each refusal: document 01's table, with those of document 02 that are given; and the promise of a function that writes into a lent buffer. Assumes nothing.
use Rattle.std.specs.Prelude.{◌≡◌, List, ℕ, ◌+◌, length, Result, Ok, Err}
use Rattle.limits.specs.Limits.{most_operations}
use Rattle.answers.specs.declared.Refusal.{Refusal}
use Rattle.answers.specs.declared.Refusal.TheVariants.{NotQubits, QubitCount, Malformed, NoSuchQubit, QubitTwice, TooManyOperations, NoCoin, NoRoom, NoRecord, BadByte, NotPaired, Anticommuting, RowLengths, TooUnlikely, ReadoutLength}
use Rattle.answers.specs.Verdict.{Verdict, accepted, refused, then, within, after, counted}

abbrev pub number_of : Refusal → ℕ
number_of NotQubits = 1
number_of QubitCount = 2
number_of (Malformed line) = 3
number_of (NoSuchQubit line) = 4
number_of (QubitTwice line) = 5
number_of TooManyOperations = 6
number_of (NoCoin line) = 7
number_of NoRoom = 8
number_of NoRecord = 9
number_of (BadByte at) = 10
number_of (NotPaired row) = 11
number_of Anticommuting = 12
number_of RowLengths = 13
number_of TooUnlikely = 14
number_of ReadoutLength = 15

abbrev pub place_of : Refusal → ℕ
place_of NotQubits = 1
place_of QubitCount = 1
place_of (Malformed line) = line
place_of (NoSuchQubit line) = line
place_of (QubitTwice line) = line
place_of TooManyOperations = most_operations + 2
place_of (NoCoin line) = line
place_of NoRoom = 0
place_of NoRecord = 0
place_of (BadByte at) = at
place_of (NotPaired row) = row
place_of Anticommuting = 0
place_of RowLengths = 0
place_of TooUnlikely = 0
place_of ReadoutLength = 0

-- a value that a function hands out, or the number and the place of its refusal
abbrev pub told : {A : Type 0} → Result A Refusal → Verdict A
told (Ok a) = accepted a
told (Err r) = refused (number_of r) (place_of r)

-- what a function answers whose answer is these bytes, or this refusal, with a buffer that held old and holds new
pub record Writes (v : Verdict (List ℕ)) (old : List ℕ) (r : Result ℕ Refusal) (new : List ℕ) : Type 0 where
  pub answer : told r ≡ counted (then v (within (length old)))
  pub buffer : new ≡ after (then v (within (length old))) old
