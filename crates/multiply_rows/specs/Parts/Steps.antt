-- The parts of a multiplication of many rows by one, each as what it does to every row. Assumes nothing.
use Rattle.std.specs.Prelude.{Bool, true, false, not, ◌&&◌, cond, List, ◌≡◌, ℕ, ◌+◌, ◌*◌, ◌/◌, ◌%◌, ◌≤◌, ◌<◌, eqb, get_or}
use Rattle.limits.specs.Limits.{most_qubits}
use Rattle.pauli.specs.Letters.{Letter, letter, Power, i0, i1, i2, i3, ◌⊞◌, ◌·◌, power}
use Rattle.pauli.specs.Rows.{Row, times_row}
use Rattle.words.specs.Bit.{bit}
use Rattle.clifford.specs.Tableau.{blank}
use Rattle.packing.specs.View.{row_count, Words, bit_at, letter_at, row_at}
use Rattle.groups.specs.Parts.Rows.{row_bit, All}
use Rattle.multiply_rows.specs.declared.Powers.{Powers}

-- the power of i that a count of two bits says, the high bit first
abbrev pub power_in_bits : Bool → Bool → Power
power_in_bits false false = i0
power_in_bits false true = i1
power_in_bits true false = i2
power_in_bits true true = i3

abbrev pub count_of : Powers → ℕ → Power
count_of c s = power_in_bits (row_bit c.hi s) (row_bit c.lo s)

-- of the words old come new: on qubit j row s has the letter f s, all else is as it was
pub record Lettered (j : ℕ) (f : ℕ → Letter) (old new : List ℕ) : Type 0 where
  pub words : Words new
  pub letters : All (λ s. letter_at new s j ≡ f s)
  pub before : (k : ℕ) → k < 8 * j → get_or new k 0 ≡ get_or old k 0
  pub behind : (k : ℕ) → 8 * j + 8 ≤ k → get_or new k 0 ≡ get_or old k 0

-- the letter of row s on qubit j, if it is kept
abbrev pub if_kept : ℕ → (ℕ → Bool) → List ℕ → ℕ → Letter
if_kept j k w s = letter (bit_at w (8 * j) s && k s) (bit_at w (8 * j + 4) s && k s)

-- of the words old and counts c come new and r: where the mask m is set, the letter on qubit j that is kept is multiplied by that of px and pz, and the product's power
-- added to the count
pub record Timed (j : ℕ) (px pz k m : ℕ → Bool) (c r : Powers) (old new : List ℕ) : Type 0 where
  pub column : Lettered j (λ s. cond (m s) (if_kept j k old s · letter (px s) (pz s)) (if_kept j k old s)) old new
  pub counts : All (λ s. count_of r s ≡ cond (m s) (count_of c s ⊞ power (if_kept j k old s) (letter (px s) (pz s))) (count_of c s))

-- the letter of row s on qubit j, but in word g those alone that `own` has
abbrev pub erased : ℕ → ℕ → ℕ → List ℕ → ℕ → Letter
erased j g own w s = cond (eqb (s / 64) g) (letter (bit_at w (8 * j) s && bit (s % 64) own) (bit_at w (8 * j + 4) s && bit (s % 64) own)) (letter_at w s j)

-- all rows but the two of number p
abbrev pub Keeps : ℕ → (ℕ → Bool) → Type 0
Keeps p k = All (λ s. k s ≡ not (eqb (s % most_qubits) p))

-- row s of the words w, but the two rows of number p are all I
abbrev pub without : ℕ → ℕ → List ℕ → ℕ → Row
without n p w s = cond (eqb (s % most_qubits) p) blank (row_at n w s)

-- of the words old come new: both rows of number p cleared, then each row under the mask m times the row r; nothing changes from qubit n on
pub record Multiplied (n p : ℕ) (m : ℕ → Bool) (r : Row) (old new : List ℕ) : Type 0 where
  pub words : Words new
  pub row : All (λ s. row_at n new s ≡ cond (m s) (times_row n (without n p old s) r) (without n p old s))
  pub letters : (s j : ℕ) → s < row_count → n ≤ j → j < most_qubits → letter_at new s j ≡ letter_at old s j
