-- The rows of a tableau in one list of words. Four words side by side have a bit for each of 256 rows: row s is bit s % 64 of word s / 64.
-- Destabilizer i is row i of these, and stabilizer i is row 128 + i. The four words from 8 j on have the x bits of qubit j, those from 8 j + 4
-- on its z bits, and the last four the signs. Assumes nothing.
use Rattle.std.specs.Prelude.{Bool, cond, List, ◌≡◌, ℕ, ◌+◌, ◌*◌, ◌/◌, ◌%◌, ◌≤◌, ◌<◌, ltb, length, get_or}
use Rattle.limits.specs.Limits.{most_qubits}
use Rattle.pauli.specs.Letters.{Letter, I, letter}
use Rattle.pauli.specs.Rows.{Row}
use Rattle.clifford.specs.Tableau.{Rows, blank}
use Rattle.words.specs.Bit.{bit}

-- how many rows there are in all, where the signs stand, and how many words there are
abbrev pub row_count : ℕ
row_count = 2 * most_qubits

abbrev pub sign_words : ℕ
sign_words = 8 * most_qubits

abbrev pub word_count : ℕ
word_count = sign_words + 4

abbrev pub Words : List ℕ → Type 0
Words w = length w ≡ word_count

-- the bit of row s in a group of words, of which f has the one of each number
abbrev pub bit_in : (ℕ → ℕ) → ℕ → Bool
bit_in f s = bit (s % 64) (f (s / 64))

-- the group of words from o on
abbrev pub group : List ℕ → ℕ → ℕ → ℕ
group w o g = get_or w (o + g) 0

abbrev pub bit_at : List ℕ → ℕ → ℕ → Bool
bit_at w o s = bit_in (group w o) s

-- the letter of row s on qubit j
abbrev pub letter_at : List ℕ → ℕ → ℕ → Letter
letter_at w s j = letter (bit_at w (8 * j) s) (bit_at w (8 * j + 4) s)

-- row s of n letters
unfoldable pub row_at : ℕ → List ℕ → ℕ → Row
row_at n w s = record { minus = bit_at w sign_words s; letters = λ j. cond (ltb j n) (letter_at w s j) I }

-- n rows, the first of them row o
unfoldable pub rows_from : ℕ → ℕ → List ℕ → ℕ → Row
rows_from n o w i = cond (ltb i n) (row_at n w (o + i)) blank

-- the tableau of n qubits
abbrev pub rows_of : ℕ → List ℕ → Rows
rows_of n w = record { destabilizer = rows_from n 0 w; stabilizer = rows_from n most_qubits w }

-- nothing is set from row n or from qubit n on
pub record Holds (n : ℕ) (w : List ℕ) : Type 0 where
  pub words : Words w
  pub rows : (s : ℕ) → s < row_count → n ≤ s % most_qubits → row_at n w s ≡ blank
  pub letters : (s j : ℕ) → s < row_count → n ≤ j → j < most_qubits → letter_at w s j ≡ I
