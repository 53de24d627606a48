-- What the parts of the row reader promise one another: a look, rows in eights as bytes, and the rows that are spelled. Assumes nothing.
use Rattle.std.specs.Prelude.{Bool, true, false, ◌&&◌, cond, List, ◌≢◌, ◌≡◌, ℕ, ◌+◌, ◌*◌, ◌/◌, ◌%◌, ◌≤◌, ◌<◌, ltb, length, get_or}
use Rattle.std.specs.Int.Bits.{bit_xor}
use Rattle.limits.specs.Limits.{most_qubits}
use Rattle.pauli.specs.Letters.{Letter, x, z}
use Rattle.pauli.specs.Texts.{spelled}
use Rattle.packing.specs.View.{row_count, sign_words, Words, row_at, Holds}
use Rattle.words.specs.Bit.{bit}
use Rattle.packing.specs.Parts.Planes.{plane_size, plane_bit}
use Rattle.packing.specs.declared.Planes.{Planes}
use Rattle.read_rows.specs.Parts.Texts.{text_of}

-- where the look is true, no number below m passes the test
abbrev pub NoneWhere : Bool → (ℕ → Bool) → ℕ → Type 0
NoneWhere look f m = look ≡ true → (k : ℕ) → k < m → f k ≡ false

-- the letter on qubit j of row i, of rows of n letters, row behind row
abbrev pub column_of : List ℕ → ℕ → ℕ → ℕ → Letter
column_of s n j i = (spelled (text_of s n i)).letters j

abbrev pub sign_of : List ℕ → ℕ → ℕ → Bool
sign_of s n i = (spelled (text_of s n i)).minus

-- one bit of each of n bytes is turned over where f says so
pub record Turned (f : ℕ → Bool) (n bit from : ℕ) (old new : List ℕ) : Type 0 where
  pub length_kept : length new ≡ length old
  pub inside : (j : ℕ) → j < n → get_or new (from + j) 0 ≡ bit_xor (get_or old (from + j) 0) (cond (f j) bit 0)
  pub outside : (c : ℕ) → ((j : ℕ) → j < n → c ≡ from + j → ⊥) → get_or new c 0 ≡ get_or old c 0

-- bit k of qubit j, for n qubits and the first i of 64 rows
pub record Sliced (f : ℕ → ℕ → Bool) (n i : ℕ) (plane : List ℕ) : Type 0 where
  pub bytes : length plane ≡ plane_size
  pub bits : (j k : ℕ) → j < n → k < 64 → plane_bit plane k j ≡ (ltb k i && f j k)

-- the first i bits are as f says, and no other is set
abbrev pub Built : (ℕ → Bool) → ℕ → ℕ → Type 0
Built f i w = (k : ℕ) → bit k w ≡ (ltb k i && f k)

-- so many rows, from row `first` on, in bytes
pub record SlicedRows (s : List ℕ) (n first count : ℕ) (p : Planes) : Type 0 where
  pub xs : Sliced (λ j i. x (column_of s n j (first + i))) n count p.x
  pub zs : Sliced (λ j i. z (column_of s n j (first + i))) n count p.z
  pub signs : Built (λ i. sign_of s n (first + i)) count p.signs

-- of the words old come new: word g of every qubit and of the signs has so many rows, from row `first` on; all others are as they were
pub record Placed (s : List ℕ) (n first count g : ℕ) (old new : List ℕ) : Type 0 where
  pub words : Words new
  pub xs : (j : ℕ) → j < n → Built (λ i. x (column_of s n j (first + i))) count (get_or new (8 * j + g) 0)
  pub zs : (j : ℕ) → j < n → Built (λ i. z (column_of s n j (first + i))) count (get_or new (8 * j + 4 + g) 0)
  pub signs : Built (λ i. sign_of s n (first + i)) count (get_or new (sign_words + g) 0)
  pub beside : (k : ℕ) → k % 4 ≢ g → get_or new k 0 ≡ get_or old k 0
  pub behind : (k : ℕ) → 8 * n ≤ k → k < sign_words → get_or new k 0 ≡ get_or old k 0

-- so many of the rows of word g are of the n of their kind
pub record Share (n g count : ℕ) : Type 0 where
  pub most : count ≤ 64
  pub within : 0 < count → 64 * (g % 2) + count ≤ n
  pub rows : (k : ℕ) → k < 64 → ltb k count ≡ ltb (64 * (g % 2) + k) n

-- where row s stands among the 2n rows of a record
abbrev pub in_record : ℕ → ℕ → ℕ
in_record n s = n * (s / most_qubits) + s % most_qubits

-- the words hold the 2n rows of n letters that are spelled, and nothing else
pub record Loaded (s : List ℕ) (n : ℕ) (w : List ℕ) : Type 0 where
  pub rows : (k : ℕ) → k < row_count → k % most_qubits < n → row_at n w k ≡ spelled (text_of s n (in_record n k))
  pub only : Holds n w
