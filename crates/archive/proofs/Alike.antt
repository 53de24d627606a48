-- Two records describe the same state exactly when n is equal and each stabilizer row has the sign and the letters of the one at its place. Assumes nothing.
use mathlib.Core.Path.{◌≡◌, refl, sym, ◌∙◌, ap, ap₂}
use mathlib.Core.Bool.{Bool, true, false, ◌&&◌}
use Prim.Native.Nat.{ℕ, zero, suc, ◌<◌}
use native.Mathlib.Omega.{arith}
use lib.Dec.{eqb}
use borrow.Author.Tests.{eq-eqb, eqb-true, eqb-false}
use Rattle.pauli.specs.Letters.{Letter, x, z, letter}
use Rattle.pauli.specs.Rows.{Row}
use Rattle.pauli.proofs.LetterLaws.{letter_bits}
use Rattle.records.specs.Reading.{Read}
use Rattle.archive.specs.Same.{all_of, equal_bits, equal_letters, equal_rows, same_state}

-- the same sign, and the same letter on each of the n qubits
pub record SameRow (n : ℕ) (r s : Row) : Type 0 where
  pub signs : r.minus ≡ s.minus
  pub letters : (j : ℕ) → j < n → r.letters j ≡ s.letters j

pub record SameRows (r s : Read) : Type 0 where
  pub qubits : r.qubits ≡ s.qubits
  pub rows : (i : ℕ) → i < r.qubits → SameRow r.qubits (r.rows.stabilizer i) (s.rows.stabilizer i)

-- ---- all of the first n pass

both_left : (a b : Bool) → a && b ≡ true → a ≡ true
both_left true b e = refl
both_left false b e = e

both_right : (a b : Bool) → a && b ≡ true → b ≡ true
both_right true b e = e
both_right false b e = cc

pub all_at : (f : ℕ → Bool) (n : ℕ) → all_of f n ≡ true → (i : ℕ) → i < n → f i ≡ true
all_at f zero e i h = absurd (omega arith)
all_at f (suc n) e i h = go (eqb i n) refl (all_at f n (both_left (all_of f n) (f n) e) i)
  where
    go : (b : Bool) → eqb i n ≡ b → (i < n → f i ≡ true) → f i ≡ true
    go true u before = ap f (eqb-true i n u) ∙ both_right (all_of f n) (f n) e
    go false u before = before (omega (arith, eqb-false i n u))

pub all_made : (f : ℕ → Bool) (n : ℕ) → ((i : ℕ) → i < n → f i ≡ true) → all_of f n ≡ true
all_made f zero h = refl
all_made f (suc n) h = ap₂ ◌&&◌ (all_made f n (λ i l. h i (omega arith))) (h n (omega arith))

-- ---- bits, letters, rows

pub bits_same : (a b : Bool) → equal_bits a b ≡ true → a ≡ b
bits_same true true e = refl
bits_same true false e = sym e
bits_same false true e = e
bits_same false false e = refl

pub bit-itself : (a : Bool) → equal_bits a a ≡ true
bit-itself true = refl
bit-itself false = refl

letters_same : (a b : Letter) → equal_letters a b ≡ true → a ≡ b
letters_same a b e =
    let p = bits_same (x a) (x b) (both_left (equal_bits (x a) (x b)) (equal_bits (z a) (z b)) e) in
    let q = bits_same (z a) (z b) (both_right (equal_bits (x a) (x b)) (equal_bits (z a) (z b)) e) in
    sym (letter_bits a) ∙ ap₂ letter p q ∙ letter_bits b

letter_itself : (a : Letter) → equal_letters a a ≡ true
letter_itself a = ap₂ ◌&&◌ (bit-itself (x a)) (bit-itself (z a))

module _ (n : ℕ) (r s : Row) where
  abbrev letter_by_letter : ℕ → Bool
  letter_by_letter j = equal_letters (r.letters j) (s.letters j)

  pub row_same : equal_rows n r s ≡ true → SameRow n r s
  row_same e = record {
    signs = bits_same r.minus s.minus (both_left (equal_bits r.minus s.minus) (all_of letter_by_letter n) e);
    letters = λ j h. letters_same (r.letters j) (s.letters j) (all_at letter_by_letter n (both_right (equal_bits r.minus s.minus) (all_of letter_by_letter n) e) j h);
  }

  pub row_equal : SameRow n r s → equal_rows n r s ≡ true
  row_equal e =
      ap₂ ◌&&◌ (ap (equal_bits r.minus) (sym e.signs) ∙ bit-itself r.minus)
      (all_made letter_by_letter n (λ j h. ap (equal_letters (r.letters j)) (sym (e.letters j h)) ∙ letter_itself (r.letters j)))

-- ---- states

module _ (r s : Read) where
  abbrev row_by_row : ℕ → Bool
  row_by_row i = equal_rows r.qubits (r.rows.stabilizer i) (s.rows.stabilizer i)

  pub same_rows : same_state r s ≡ true → SameRows r s
  same_rows e = record {
    qubits = eqb-true r.qubits s.qubits (both_left (eqb r.qubits s.qubits) (all_of row_by_row r.qubits) e);
    rows = λ i h. row_same r.qubits (r.rows.stabilizer i) (s.rows.stabilizer i) (all_at row_by_row r.qubits (both_right (eqb r.qubits s.qubits) (all_of row_by_row r.qubits) e) i h);
  }

  pub rows_same : SameRows r s → same_state r s ≡ true
  rows_same e =
      ap₂ ◌&&◌ (eq-eqb r.qubits s.qubits e.qubits)
      (all_made row_by_row r.qubits (λ i h. row_equal r.qubits (r.rows.stabilizer i) (s.rows.stabilizer i) (e.rows i h)))
