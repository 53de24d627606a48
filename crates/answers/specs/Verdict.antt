-- What a public function answers: a value, or a refusal's number and its place; and what becomes of a lent buffer. Assumes nothing.
use Rattle.std.specs.Prelude.{Bool, true, false, List, ◌++◌, ℕ, leb, length, drop}
use Rattle.std.specs.Prelude.{Option, None, Some}

pub data Verdict (A : Type 0) : Type 0 where
  accepted : A → Verdict A
  refused : (number place : ℕ) → Verdict A

-- a check that comes later speaks only where no earlier one refused
abbrev pub then : {A B : Type 0} → Verdict A → (A → Verdict B) → Verdict B
then (accepted a) f = f a
then (refused number place) f = refused number place

-- refused with this number and place unless the test passes
abbrev pub unless : {A : Type 0} → Bool → ℕ → ℕ → Verdict A → Verdict A
unless true number place v = v
unless false number place v = refused number place

-- refused with this number at the place that was found, if one was
abbrev pub unless_at : {A : Type 0} → ℕ → Option ℕ → Verdict A → Verdict A
unless_at number (Some place) v = refused number place
unless_at number None v = v

-- 8: the lent buffer is shorter than the answer
abbrev pub within : ℕ → List ℕ → Verdict (List ℕ)
within room bytes = unless (leb (length bytes) room) 8 0 (accepted bytes)

-- only the answer's bytes at the front are new
abbrev pub over : List ℕ → List ℕ → List ℕ
over bytes old = bytes ++ drop (length bytes) old

-- the buffer after the call: after a refusal it holds its old bytes
abbrev pub after : Verdict (List ℕ) → List ℕ → List ℕ
after (accepted bytes) old = over bytes old
after (refused number place) old = old

-- the number of bytes is answered
abbrev pub counted : Verdict (List ℕ) → Verdict ℕ
counted (accepted bytes) = accepted (length bytes)
counted (refused number place) = refused number place
