-- The text of a row: `+` or `-`, and its letters. Document 01, "The run record". Assumes nothing.
use Rattle.std.specs.Prelude.{Bool, true, false, cond, ◌||◌, List, [], ◌∷◌, ℕ, zero, suc, eqb, get_or}
use Rattle.pauli.specs.Letters.{Letter, I, X, Y, Z}
use Rattle.pauli.specs.Rows.{Row}

-- `+` and `-`
abbrev pub sign_byte : Bool → ℕ
sign_byte false = 43
sign_byte true = 45

-- `I`, `X`, `Y`, `Z`
abbrev pub letter_byte : Letter → ℕ
letter_byte I = 73
letter_byte X = 88
letter_byte Y = 89
letter_byte Z = 90

-- f 0, f 1, .. f (n - 1)
unfoldable pub listed : {A : Type 0} → (ℕ → A) → ℕ → List A
listed f zero = []
listed f (suc n) = f zero ∷ listed (λ k. f (suc k)) n

-- a row of n letters, written
abbrev pub row_text : ℕ → Row → List ℕ
row_text n r = sign_byte r.minus ∷ listed (λ j. letter_byte (r.letters j)) n

-- the bytes listed for a sign and for a letter
abbrev pub is_sign : ℕ → Bool
is_sign b = eqb b 43 || eqb b 45

abbrev pub is_letter : ℕ → Bool
is_letter b = eqb b 73 || eqb b 88 || eqb b 89 || eqb b 90

-- the byte is one listed for this place of a row's text
abbrev pub fits_at : ℕ → ℕ → Bool
fits_at zero b = is_sign b
fits_at (suc k) b = is_letter b

-- the letter that a byte spells
abbrev pub letter_of : ℕ → Letter
letter_of b = cond (eqb b 88) X (cond (eqb b 89) Y (cond (eqb b 90) Z I))

-- the row that a text spells: I from its end on
abbrev pub spelled : List ℕ → Row
spelled s = record { minus = eqb (get_or s 0 0) 45; letters = λ j. letter_of (get_or s (suc j) 0) }
