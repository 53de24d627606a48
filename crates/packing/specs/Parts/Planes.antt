-- 64 rows in bytes: a byte has the bits of eight rows on one qubit, in one plane of them the x bits and in another the z bits. Assumes nothing.
use Rattle.std.specs.Prelude.{Bool, List, ℕ, ◌+◌, ◌*◌, ◌/◌, ◌%◌, get_or}
use Rattle.limits.specs.Limits.{most_qubits}
use Rattle.pauli.specs.Letters.{Letter, letter}
use Rattle.words.specs.Bit.{bit}

-- where the byte of eight rows, the r-th eight, and of qubit j stands in a plane, and how many there are
abbrev pub byte_place : ℕ → ℕ → ℕ
byte_place r j = most_qubits * r + j

abbrev pub plane_size : ℕ
plane_size = byte_place 8 0

-- the bit of row i on qubit j
abbrev pub plane_bit : List ℕ → ℕ → ℕ → Bool
plane_bit plane i j = bit (i % 8) (get_or plane (byte_place (i / 8) j) 0)

-- the letter of row i on qubit j, of a plane of x bits and one of z bits
abbrev pub plane_letter : List ℕ → List ℕ → ℕ → ℕ → Letter
plane_letter xs zs i j = letter (plane_bit xs i j) (plane_bit zs i j)
