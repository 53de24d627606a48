-- Rows of n letters with a sign, their product and when they commute: document 01, "Rows and their products". Assumes nothing.
use Rattle.std.specs.Prelude.{Bool, true, false, ℕ}
use Rattle.pauli.specs.Letters.{Letter, Power, i0, i1, i2, i3, ◌⊕◌, ◌⊞◌, sign, ◌·◌, power, differ}
use Rattle.pauli.specs.Sums.{sum}

-- a letter for each qubit: of a row of n letters the first n count
abbrev pub Letters : Type 0
Letters = ℕ → Letter

-- an odd number of the first n places pass the test
abbrev pub odd_number : (ℕ → Bool) → ℕ → Bool
odd_number = sum false ◌⊕◌

-- powers of i, summed modulo four over the first n places
abbrev pub sum_powers : (ℕ → Power) → ℕ → Power
sum_powers = sum i0 ◌⊞◌

-- rows commute exactly when an even number of places hold two different letters, neither being I
abbrev pub anticommute : ℕ → Letters → Letters → Bool
anticommute n r s = odd_number (λ j. differ (r j) (s j)) n

-- the product of two rows multiplies letter by letter
abbrev pub mul : Letters → Letters → Letters
mul r s = λ j. r j · s j

abbrev pub total : ℕ → Letters → Letters → Power
total n r s = sum_powers (λ j. power (r j) (s j)) n

-- letters with a power of i before them
pub record Phased : Type 0 where
  pub phase : Power
  pub letters : Letters

-- the powers are summed modulo four
abbrev pub product : ℕ → Phased → Phased → Phased
product n r s = record { phase = r.phase ⊞ s.phase ⊞ total n r.letters s.letters; letters = mul r.letters s.letters }

-- a row is a sign and n letters
pub record Row : Type 0 where
  pub minus : Bool
  pub letters : Letters

-- each minus sign adds two
abbrev pub phased : Row → Phased
phased r = record { phase = sign r.minus; letters = r.letters }

-- the sign of a total: 0 is plus, 2 is minus (the total of commuting rows is even, `times_phased` of proofs/RowLaws.antt)
abbrev pub minus_sign : Power → Bool
minus_sign i0 = false
minus_sign i1 = false
minus_sign i2 = true
minus_sign i3 = true

abbrev pub signed : Phased → Row
signed p = record { minus = minus_sign p.phase; letters = p.letters }

-- the product of commuting rows, as a row
abbrev pub times_row : ℕ → Row → Row → Row
times_row n r s = signed (product n (phased r) (phased s))
