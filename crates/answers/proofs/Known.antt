-- A refusal is known by its number and place, and a promise to write leaves no choice. Assumes nothing.
use mathlib.Core.Path.{◌≡◌, refl, sym, ◌∙◌, ap}
use mathlib.Core.List.{List, [], ◌∷◌}
use Prim.Native.Nat.{ℕ}
use lib.ListN.{get_or}
use Rattle.answers.specs.declared.Refusal.{Refusal}
use Rattle.answers.specs.declared.Refusal.TheVariants.{NotQubits, QubitCount, Malformed, NoSuchQubit, QubitTwice, TooManyOperations, NoCoin, NoRoom, NoRecord, BadByte, NotPaired, Anticommuting, RowLengths, TooUnlikely, ReadoutLength}
use Rattle.std.specs.Prelude.{Result, Ok, Err}
use Rattle.answers.specs.Verdict.{Verdict, accepted, refused}
use Rattle.answers.specs.Refusals.{number_of, place_of, told, Writes}

-- the refusal of a number and a place
abbrev named : ℕ → ℕ → Refusal
named number p =
    get_or
    (NoRoom ∷ NotQubits ∷ QubitCount ∷ Malformed p ∷ NoSuchQubit p ∷ QubitTwice p ∷ TooManyOperations ∷ NoCoin p ∷ NoRoom ∷ NoRecord ∷ BadByte p ∷ NotPaired p ∷ Anticommuting ∷ RowLengths ∷ TooUnlikely ∷ ReadoutLength ∷ [])
    number NoRoom

named_again : (r : Refusal) → named (number_of r) (place_of r) ≡ r
named_again NotQubits = refl
named_again QubitCount = refl
named_again (Malformed line) = refl
named_again (NoSuchQubit line) = refl
named_again (QubitTwice line) = refl
named_again TooManyOperations = refl
named_again (NoCoin line) = refl
named_again NoRoom = refl
named_again NoRecord = refl
named_again (BadByte at) = refl
named_again (NotPaired row) = refl
named_again Anticommuting = refl
named_again RowLengths = refl
named_again TooUnlikely = refl
named_again ReadoutLength = refl

abbrev back : {A : Type 0} → Verdict A → Result A Refusal
back (accepted a) = Ok a
back (refused number place) = Err (named number place)

back_again : {A : Type 0} (r : Result A Refusal) → back (told r) ≡ r
back_again (Ok a) = refl
back_again (Err r) = ap Err (named_again r)

pub one_refusal : (r s : Refusal) → number_of r ≡ number_of s → place_of r ≡ place_of s → r ≡ s
one_refusal r s n p = sym (named_again r) ∙ (λ i. named (n i) (p i)) ∙ named_again s

pub one_answer : {A : Type 0} (r s : Result A Refusal) → told r ≡ told s → r ≡ s
one_answer r s e = sym (back_again r) ∙ ap back e ∙ back_again s

-- two answers that the same promise allows are equal, and so are the lent bytes afterwards
pub writes_one : (v : Verdict (List ℕ)) (old : List ℕ) (r s : Result ℕ Refusal) (new last : List ℕ) → Writes v old r new → Writes v old s last → (r ≡ s) × (new ≡ last)
writes_one v old r s new last a b = (one_answer r s (a.answer ∙ sym b.answer), a.buffer ∙ sym b.buffer)
