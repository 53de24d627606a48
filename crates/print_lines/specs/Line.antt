-- The printed lines: words with single spaces between them, closed by byte 10. Document 01, the program `shot`. Assumes nothing.
use Rattle.std.specs.Prelude.{Bool, true, false, List, [], ◌∷◌, ◌++◌, ℕ}
use Rattle.circuit.specs.Lines.{space, end_byte}
use Rattle.lines.specs.Decimal.{decimal}
use Rattle.clifford.specs.declared.Outcome.{Outcome}

-- a word, and more words, single spaces between, and the end byte
abbrev pub spaced : List ℕ → List (List ℕ) → List ℕ
spaced word [] = word ++ (end_byte ∷ [])
spaced word (next ∷ more) = word ++ (space ∷ spaced next more)

-- `random` and `fixed`
abbrev pub kind_word : Bool → List ℕ
kind_word true = 114 ∷ 97 ∷ 110 ∷ 100 ∷ 111 ∷ 109 ∷ []
kind_word false = 102 ∷ 105 ∷ 120 ∷ 101 ∷ 100 ∷ []

-- `1` and `0`
abbrev pub value_word : Bool → List ℕ
value_word true = 49 ∷ []
value_word false = 48 ∷ []

-- an outcome line holds line number in the circuit, qubit, kind, value
abbrev pub outcome_line : ℕ → ℕ → Outcome → List ℕ
outcome_line line a o = spaced (decimal line) (decimal a ∷ kind_word o.random ∷ value_word o.value ∷ [])

-- `refused`
abbrev pub refused_word : List ℕ
refused_word = 114 ∷ 101 ∷ 102 ∷ 117 ∷ 115 ∷ 101 ∷ 100 ∷ []

-- a refusal prints `refused`, number and place
abbrev pub refusal_line : ℕ → ℕ → List ℕ
refusal_line number place = spaced refused_word (decimal number ∷ decimal place ∷ [])
