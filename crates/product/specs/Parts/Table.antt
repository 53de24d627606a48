-- What the parts of the row product promise one another: the table's entries, the first bad byte of a row, the summed power, the written letters. Assumes nothing.
use Rattle.std.specs.Prelude.{Bool, not, List, ◌≡◌, ℕ, ◌-◌, length, get_or, Option}
use Rattle.answers.specs.First.{lowest}
use Rattle.pauli.specs.Letters.{Letter, I, X, Y, Z, Power, i0, i1, i2, i3, ◌·◌, power}
use Rattle.pauli.specs.Rows.{mul}
use Rattle.pauli.specs.Texts.{letter_byte, letter_of, fits_at, row_text, spelled}
use Rattle.product.specs.declared.Entry.{Entry}

-- I, X, Y, Z as 0 to 3
abbrev pub code_of : Letter → ℕ
code_of I = 0
code_of X = 1
code_of Y = 2
code_of Z = 3

-- a power of i as a number
abbrev pub power_number : Power → ℕ
power_number i0 = 0
power_number i1 = 1
power_number i2 = 2
power_number i3 = 3

-- the table's entry for two letter bytes: the letter of the product, and the power of i
pub record Tabled (a b : ℕ) (e : Entry) : Type 0 where
  pub letter : e.letter ≡ letter_byte (letter_of a · letter_of b)
  pub power : e.power ≡ power_number (power (letter_of a) (letter_of b))

-- the first place of a row's text with a byte that is not listed
abbrev pub first_unlisted : List ℕ → Option ℕ
first_unlisted s = lowest (λ k. not (fits_at k (get_or s k 0))) (length s)

-- the text of a row with this sign and the letters of the product
abbrev pub letter_text : List ℕ → List ℕ → Bool → List ℕ
letter_text first second minus = row_text (length first - 1) (record { minus = minus; letters = mul (spelled first).letters (spelled second).letters })
