-- What planes of bytes hold of packed words, and the row that two of them and the signs hold. Assumes nothing.
use Rattle.std.specs.Prelude.{List, ◌≡◌, ℕ, ◌+◌, ◌*◌, ◌<◌, length, get_or}
use Rattle.std.specs.Int.{w64, to_le_bytes}
use Rattle.pauli.specs.Rows.{Row}
use Rattle.words.specs.Bit.{bit}
use Rattle.packing.specs.Parts.Planes.{byte_place, plane_size, plane_bit, plane_letter}
use Rattle.packing.specs.View.{sign_words}
use Rattle.packing.specs.declared.Planes.{Planes}

-- byte r of the word in this slot, of the eight of qubit j
abbrev pub byte_of : List ℕ → ℕ → ℕ → ℕ → ℕ
byte_of w slot r j = get_or (to_le_bytes w64 (get_or w (8 * j + slot) 0)) r 0

-- the bytes of the first n qubits are there
pub record Filled (w : List ℕ) (slot n : ℕ) (plane : List ℕ) : Type 0 where
  pub size : length plane ≡ plane_size
  pub bytes : (r j : ℕ) → r < 8 → j < n → get_or plane (byte_place r j) 0 ≡ byte_of w slot r j

-- the plane, for n qubits, of the words in this slot, of the eight of each qubit
pub record PlaneOf (w : List ℕ) (slot n : ℕ) (plane : List ℕ) : Type 0 where
  pub bits : (i j : ℕ) → i < 64 → j < n → plane_bit plane i j ≡ bit i (get_or w (8 * j + slot) 0)

-- the rows of word g of each group of four
pub record PlanesOf (w : List ℕ) (g n : ℕ) (p : Planes) : Type 0 where
  pub xs : PlaneOf w g n p.x
  pub zs : PlaneOf w (4 + g) n p.z
  pub signs : p.signs ≡ get_or w (sign_words + g) 0

-- row i of those that planes hold
abbrev pub plane_row : Planes → ℕ → Row
plane_row p i = record { minus = bit i p.signs; letters = plane_letter p.x p.z i }
