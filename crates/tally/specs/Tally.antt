-- The tally of a run: how many measurements so far, how many random, how many coins taken. Document 01, "The operations". Assumes nothing.
use Rattle.std.specs.Prelude.{Bool, true, false, List, [], ◌∷◌, ℕ, ◌+◌, ◌-◌, length}
use Rattle.clifford.specs.declared.Outcome.{Outcome}
use Rattle.clifford.specs.Run.{State}
use Rattle.tally.specs.declared.Tally.{Tally}

abbrev pub one_if : Bool → ℕ
one_if true = 1
one_if false = 0

-- how many of the outcomes are random
abbrev pub randoms : List Outcome → ℕ
randoms [] = 0
randoms (o ∷ outcomes) = one_if o.random + randoms outcomes

-- of a run that was lent these coins and stands here: its outcomes, the random ones among them, and the coins that are gone
abbrev pub tally_of : List ℕ → State → Tally
tally_of lent s = record { measured = length s.outcomes; random = randoms s.outcomes; taken = length lent - length s.coins }
