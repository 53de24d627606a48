-- The power of i of an ordered product of rows, summed by rows and by columns: what the functions of src/lib.rt that `fixed_value` calls promise
-- each other. Its own promise cites none of this. Assumes nothing.
use Rattle.std.specs.Prelude.{Bool, true, false, ◌&&◌, List, ◌≡◌, ℕ, zero, suc, ◌*◌, ◌+◌, ◌<◌, eqb}
use Rattle.limits.specs.Limits.{most_qubits}
use Rattle.pauli.specs.Letters.{Power, i0, i3, next, ◌⊞◌, sign}
use Rattle.pauli.specs.Rows.{odd_number, sum_powers}
use Rattle.words.specs.Bit.{bit}
use Rattle.packing.specs.View.{sign_words, bit_in, bit_at}

-- i to the n
unfoldable pub power_of : ℕ → Power
power_of zero = i0
power_of (suc n) = next (power_of n)

-- what holds counts 1, and adds three
abbrev pub count : Bool → ℕ
count true = 1
count false = 0

abbrev pub three : Bool → Power
three false = i0
three true = i3

-- two words by their number
abbrev pub pair : ℕ → ℕ → ℕ → ℕ
pair a b zero = a
pair a b (suc g) = b

-- the bits of stabilizer r on qubit j and its sign, where sel has the row
abbrev pub x_bit : List ℕ → (ℕ → ℕ) → ℕ → ℕ → Bool
x_bit w sel j r = bit_in sel r && bit_at w (8 * j) (most_qubits + r)

abbrev pub z_bit : List ℕ → (ℕ → ℕ) → ℕ → ℕ → Bool
z_bit w sel j r = bit_in sel r && bit_at w (8 * j + 4) (most_qubits + r)

abbrev pub s_bit : List ℕ → (ℕ → ℕ) → ℕ → Bool
s_bit w sel r = bit_in sel r && bit_at w sign_words (most_qubits + r)

-- of rows whose bits on qubit j are X j r and Z j r and whose sign is S r: two for the minus of row r, and three for each letter Y among the first n
abbrev pub by_row : (ℕ → ℕ → Bool) → (ℕ → ℕ → Bool) → (ℕ → Bool) → ℕ → ℕ → Power
by_row X Z S n r = sign (S r) ⊞ sum_powers (λ j. three (X j r && Z j r)) n

-- two for each x of column j with an odd number of z up to its row, of the first m, and three where x and z are both odd in number
abbrev pub by_column : (ℕ → ℕ → Bool) → (ℕ → ℕ → Bool) → ℕ → ℕ → Power
by_column X Z m j = sign (odd_number (λ r. odd_number (Z j) (suc r) && X j r) m) ⊞ three (odd_number (X j) m && odd_number (Z j) m)

abbrev pub summed : (ℕ → ℕ → Bool) → (ℕ → ℕ → Bool) → (ℕ → Bool) → ℕ → ℕ → Power
summed X Z S m n = sum_powers (by_row X Z S n) m ⊞ sum_powers (by_column X Z m) n

-- of the first m stabilizers, those that sel has, on n qubits
unfoldable pub all_powers : ℕ → ℕ → List ℕ → (ℕ → ℕ) → Power
all_powers m n w sel = summed (x_bit w sel) (z_bit w sel) (s_bit w sel) m n

-- of 64 rows `sel` has one alone, and of `signs` that is its sign
pub record OnlyRow (sel signs : ℕ) (minus : Bool) : Type 0 where
  pub row : ℕ
  pub below : row < 64
  pub alone : (k : ℕ) → k < 64 → bit k sel ≡ eqb k row
  pub sign : minus ≡ bit row signs
