-- How long the parts of a record are. Assumes nothing.
use mathlib.Core.Path.{◌≡◌, refl, sym, ◌∙◌, ap, ap₂}
use mathlib.Core.List.{List, ◌++◌}
use Prim.Native.Nat.{ℕ, zero, suc, ◌+◌, ◌*◌, ◌/◌, ◌≤◌}
use native.Mathlib.Nat.{mul-le-mul, suc-mul, zero-mul, add_comm}
use native.Mathlib.Numerals.{add-one}
use native.Mathlib.Omega.{arith}
use lib.ListN.{length, length-append}
use Rattle.pauli.specs.Rows.{Row}
use Rattle.pauli.specs.Texts.{listed, row_text, letter_byte}
use Rattle.pauli.proofs.Listed.{length-listed}
use Rattle.clifford.specs.Tableau.{Rows}
use Rattle.limits.specs.Limits.{most_qubits, most_operations}
use Rattle.records.specs.Record.{low_first, joined, rows_text, trailer, record_with, record_length, longest_record}

pub length-low_first : (k v : ℕ) → length (low_first k v) ≡ k
unfolding low_first
length-low_first zero v = refl
length-low_first (suc k) v = ap suc (length-low_first k (v / 256))

pub length-row_text : (n : ℕ) (r : Row) → length (row_text n r) ≡ n + 1
length-row_text n r = ap suc (length-listed (λ j. letter_byte (r.letters j)) n) ∙ sym (add-one n)

-- lists of one length, joined
pub length-joined : (f : ℕ → List ℕ) (m k : ℕ) → ((i : ℕ) → length (f i) ≡ m) → length (joined (listed f k)) ≡ k * m
unfolding joined listed
length-joined f m zero h = sym (zero-mul m)
length-joined f m (suc k) h =
    length-append (f zero) (joined (listed (λ i. f (suc i)) k)) ∙ ap₂ ◌+◌ (h zero) (length-joined (λ i. f (suc i)) m k (λ i. h (suc i)))
    ∙ add_comm m (k * m) ∙ sym (suc-mul k m)

pub length-rows_text : (n : ℕ) (t : Rows) → length (rows_text n t) ≡ n * (n + 1) + n * (n + 1)
unfolding rows_text
length-rows_text n t =
    length-append (joined (listed (λ i. row_text n (t.destabilizer i)) n)) (joined (listed (λ i. row_text n (t.stabilizer i)) n))
    ∙ ap₂ ◌+◌ (length-joined (λ i. row_text n (t.destabilizer i)) (n + 1) n (λ i. length-row_text n (t.destabilizer i)))
    (length-joined (λ i. row_text n (t.stabilizer i)) (n + 1) n (λ i. length-row_text n (t.stabilizer i)))

pub length-trailer : (n count : ℕ) → length (trailer n count) ≡ 12
unfolding trailer low_first
length-trailer n count = refl

pub length-record : (n : ℕ) (marks : List ℕ) (t : Rows) → length (record_with n marks t) ≡ record_length n (length marks)
unfolding record_with
length-record n marks t =
    length-append (marks ++ rows_text n t) (trailer n (length marks))
    ∙ omega (arith, length-append marks (rows_text n t), length-rows_text n t, length-trailer n (length marks))

-- the rows of one kind, of at most m qubits
pub square_below : (n : ℕ) {m : ℕ} → n ≤ m → n * (n + 1) ≤ m * (m + 1)
square_below n {m} h = mul-le-mul {n₁ = n} {m₁ = n + 1} {n₂ = m} {m₂ = m + 1} h (omega arith)

-- no record is longer than the longest
pub record_within : (n count : ℕ) → n ≤ most_qubits → count ≤ most_operations → record_length n count ≤ longest_record
record_within n count h k = omega (arith, square_below n h)

-- the number that request i states
pub longest_is : longest_record ≡ 37132
longest_is = refl
