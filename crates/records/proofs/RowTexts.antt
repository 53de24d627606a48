-- A row's text spells the row, and a listed text is that of the row it spells. Assumes nothing.
use mathlib.Core.Path.{◌≡◌, refl, sym, ◌∙◌, ap}
use mathlib.Core.Bool.{Bool, true, false, cond, true≢false, ◌||◌}
use mathlib.Core.List.{List}
use Prim.Native.Nat.{ℕ, zero, suc, ◌+◌, ◌≤◌, ◌<◌}
use native.Mathlib.Decide.{dec_lt}
use native.Mathlib.Omega.{arith}
use lib.Dec.{eqb}
use lib.ListN.{length, get_or, get_or-eq_default}
use lib.Seq.{ext_get_or}
use borrow.Author.Tests.{eqb-true}
use Rattle.pauli.specs.Letters.{Letter, I, X, Y, Z}
use Rattle.pauli.specs.Rows.{Row}
use Rattle.pauli.specs.Texts.{sign_byte, letter_byte, listed, row_text, is_sign, is_letter, fits_at, letter_of, spelled}
use Rattle.pauli.proofs.Listed.{length-listed, get_d_listed}
use Rattle.records.proofs.Lengths.{length-row_text}

-- ---- bytes

sign_back : (b : Bool) → eqb (sign_byte b) 45 ≡ b
sign_back true = refl
sign_back false = refl

letter_back : (l : Letter) → letter_of (letter_byte l) ≡ l
letter_back I = refl
letter_back X = refl
letter_back Y = refl
letter_back Z = refl

pub sign_fits : (b : Bool) → is_sign (sign_byte b) ≡ true
sign_fits true = refl
sign_fits false = refl

letter_fits : (l : Letter) → is_letter (letter_byte l) ≡ true
letter_fits I = refl
letter_fits X = refl
letter_fits Y = refl
letter_fits Z = refl

byte_sign : (b : ℕ) → is_sign b ≡ true → sign_byte (eqb b 45) ≡ b
byte_sign b = go (eqb b 43) (eqb b 45) refl refl
  where
    go : (p q : Bool) → eqb b 43 ≡ p → eqb b 45 ≡ q → (p || q) ≡ true → sign_byte q ≡ b
    go p true e f h = sym (eqb-true b 45 f)
    go true false e f h = sym (eqb-true b 43 e)
    go false false e f h = absurd (true≢false (sym h))

byte_letter : (b : ℕ) → is_letter b ≡ true → letter_byte (letter_of b) ≡ b
byte_letter b = go (eqb b 73) (eqb b 88) (eqb b 89) (eqb b 90) refl refl refl refl
  where
    go : (p q r s : Bool) → eqb b 73 ≡ p → eqb b 88 ≡ q → eqb b 89 ≡ r → eqb b 90 ≡ s → (p || q || r || s) ≡ true → letter_byte (cond q X (cond r Y (cond s Z I))) ≡ b
    go p true r s ep eq er es h = sym (eqb-true b 88 eq)
    go p false true s ep eq er es h = sym (eqb-true b 89 er)
    go p false false true ep eq er es h = sym (eqb-true b 90 es)
    go true false false false ep eq er es h = sym (eqb-true b 73 ep)
    go false false false false ep eq er es h = absurd (true≢false (sym h))

-- ---- texts

pub text_fits : (n : ℕ) (r : Row) (e : ℕ) → e < n + 1 → fits_at e (get_or (row_text n r) e 0) ≡ true
text_fits n r zero h = sign_fits r.minus
text_fits n r (suc j) h = ap is_letter (get_d_listed (λ j. letter_byte (r.letters j)) n j 0 (omega arith)) ∙ letter_fits (r.letters j)

pub spelled_text : (n : ℕ) (r : Row) → ((j : ℕ) → n ≤ j → r.letters j ≡ I) → spelled (row_text n r) ≡ r
spelled_text n r h = λ i. record { minus = sign_back r.minus i; letters = λ j. at j (dec_lt j n) i }
  where
    at : (j : ℕ) → Dec (j < n) → letter_of (get_or (listed (λ j. letter_byte (r.letters j)) n) j 0) ≡ r.letters j
    at j (yes l) = ap letter_of (get_d_listed (λ j. letter_byte (r.letters j)) n j 0 l) ∙ letter_back (r.letters j)
    at j (no l) = ap letter_of (get_or-eq_default (listed (λ j. letter_byte (r.letters j)) n) 0 (omega (arith, length-listed (λ j. letter_byte (r.letters j)) n))) ∙ sym (h j (omega arith))

pub text_spelled : (n : ℕ) (text : List ℕ) → length text ≡ n + 1 → ((e : ℕ) → e < n + 1 → fits_at e (get_or text e 0) ≡ true) → row_text n (spelled text) ≡ text
text_spelled n text k h = ext_get_or 0 (row_text n (spelled text)) text (length-row_text n (spelled text) ∙ sym k) (λ e l. at e (omega (arith, length-row_text n (spelled text))))
  where
    at : (e : ℕ) → e < n + 1 → get_or (row_text n (spelled text)) e 0 ≡ get_or text e 0
    at zero l = byte_sign (get_or text 0 0) (h 0 l)
    at (suc j) l = get_d_listed (λ j. letter_byte ((spelled text).letters j)) n j 0 (omega arith) ∙ byte_letter (get_or text (suc j) 0) (h (suc j) l)

pub spelled_end : (n : ℕ) (text : List ℕ) (j : ℕ) → length text ≡ n + 1 → n ≤ j → (spelled text).letters j ≡ I
spelled_end n text j k h = ap letter_of (get_or-eq_default text 0 (omega arith))
