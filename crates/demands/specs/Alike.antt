-- Demand 3 of document 00, said of the bytes of records: where those of two runs of one circuit may differ, and what the record of the list made by exclusive-or
-- of three lists holds. Assumes nothing.
use Rattle.std.specs.Prelude.{Bool, true, false, ◌&&◌, cond, List, [], ◌∷◌, ◌≡◌, ℕ, ◌+◌, ◌-◌, ◌*◌, ◌%◌, ◌≤◌, ◌<◌, eqb, ltb, length, get_or, drop}
use Rattle.std.specs.Int.Bits.{bit_xor}
use Rattle.answers.specs.Verdict.{accepted}
use Rattle.pauli.specs.Letters.{◌⊕◌}
use Rattle.pauli.specs.Texts.{sign_byte, is_sign}
use Rattle.circuit.specs.Text.{Circuit, meaning}
use Rattle.records.specs.Record.{mark_of, outcome_of}
use Rattle.records.specs.Reading.{is_mark}
use Rattle.demands.specs.Calls.{Call, told_numbers, number_told, size_told, measured_told, written}

-- behind the outcomes of a record of n qubits: place k holds the sign of a row
abbrev pub sign_place : ℕ → ℕ → ℕ → Bool
sign_place n count k = ltb k (count + 2 * (n * (n + 1))) && eqb ((k - count) % (n + 1)) 0

-- two outcome characters of the same kind
pub record SameKind (a b : ℕ) : Type 0 where
  pub first : is_mark a ≡ true
  pub second : is_mark b ≡ true
  pub kind : (outcome_of b).random ≡ (outcome_of a).random

-- two records of n qubits with so many outcomes that differ at most in the outcomes' values and in the rows' signs: every letter and the trailer are the same
pub record RecordsAlike (n count : ℕ) (a b : List ℕ) : Type 0 where
  pub lengths : length b ≡ length a
  pub outcomes : (k : ℕ) → k < count → SameKind (get_or a k 0) (get_or b k 0)
  pub signs : (k : ℕ) → count ≤ k → sign_place n count k ≡ true → (is_sign (get_or a k 0) ≡ true) × (is_sign (get_or b k 0) ≡ true)
  pub others : (k : ℕ) → count ≤ k → sign_place n count k ≡ false → get_or b k 0 ≡ get_or a k 0

-- what two calls of one circuit leave: they are refused, nothing is written and no coin is taken; or they are accepted, with two records that are alike
pub data Leaves (text : List ℕ) (p q : Call text) : Type 0 where
  nothing : (number_told p ≡ 0 → ⊥) → p.new ≡ p.old → q.new ≡ q.old → p.rest ≡ p.coins → q.rest ≡ q.coins → Leaves text p q
  two_records : (c : Circuit) → meaning text ≡ accepted c → number_told p ≡ 0 → RecordsAlike c.qubits (measured_told p) (written p) (written q)
      → drop (size_told p) p.new ≡ drop (size_told p) p.old → drop (size_told p) q.new ≡ drop (size_told p) q.old → Leaves text p q

-- the list made by exclusive-or of three, byte by byte
abbrev pub xor3 : List ℕ → List ℕ → List ℕ → List ℕ
xor3 [] b c = []
xor3 (x ∷ a) [] c = []
xor3 (x ∷ a) (y ∷ b) [] = []
xor3 (x ∷ a) (y ∷ b) (z ∷ c) = bit_xor (bit_xor x y) z ∷ xor3 a b c

-- `-`
abbrev pub is_minus : ℕ → Bool
is_minus b = eqb b 45

-- the byte at place k of the fourth record, from those of the other three: each outcome and each row sign is the exclusive-or of the three
abbrev pub byte_of_three : ℕ → ℕ → ℕ → ℕ → ℕ → ℕ → ℕ
byte_of_three n count k a b c =
    cond (ltb k count) (mark_of (outcome_of a).random ((outcome_of a).value ⊕ (outcome_of b).value ⊕ (outcome_of c).value))
    (cond (sign_place n count k) (sign_byte (is_minus a ⊕ is_minus b ⊕ is_minus c)) a)

-- what the call s with the exclusive-or list leaves beside the calls p, q and r
pub record Fourth (text : List ℕ) (p q r s : Call text) : Type 0 where
  pub circuit : Circuit
  pub meant : meaning text ≡ accepted circuit
  pub answer : told_numbers s ≡ told_numbers p
  pub bytes : (k : ℕ) → k < size_told p
      → get_or (written s) k 0 ≡ byte_of_three circuit.qubits (measured_told p) k (get_or (written p) k 0) (get_or (written q) k 0) (get_or (written r) k 0)
