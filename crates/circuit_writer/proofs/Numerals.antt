-- What is read as a number is its decimal digits, and what stands behind it. Assumes nothing.
use mathlib.Core.Bool.{Bool, true, false}
use mathlib.Core.List.{List, [], ◌∷◌, ◌++◌}
use mathlib.Core.Logic.{◌⊎◌, inl, inr, ⊎_elim}
use mathlib.Core.Path.{◌≡◌, refl, sym, ◌∙◌, ap}
use Prim.Native.Nat.{ℕ, suc, ◌+◌, ◌*◌, ◌/◌, ◌%◌, ◌≤◌, ◌<◌}
use native.Mathlib.Omega.{arith}
use borrow.Author.Tests.{eqb-true, eqb-false}
use lib.Dec.{eqb}
use Rattle.circuit.specs.Lines.{found, malformed, digits, number}
use Rattle.circuit.proofs.Digits.{is_or_not, no_number, digits_more, number_starts}
use Rattle.circuit.proofs.Readings.{same_found}
use Rattle.lines.specs.Decimal.{decimal}
use Rattle.circuit_writer.proofs.Short.{decimal_one, decimal_two, decimal_three}

-- digits are read to their end, or one more is read
pub record Stopped (v : ℕ) (t : List ℕ) (x : ℕ) (rest : List ℕ) : Type 0 where
  pub value : x ≡ v
  pub left : rest ≡ t

pub record WentOn (k v : ℕ) (t : List ℕ) (x : ℕ) (rest : List ℕ) : Type 0 where
  pub digit : ℕ
  pub small : digit ≤ 9
  pub tail : List ℕ
  pub front : t ≡ (48 + digit) ∷ tail
  pub goes_on : digits k (10 * v + digit) tail ≡ found x rest

step : (k v : ℕ) (t : List ℕ) (x : ℕ) (rest : List ℕ) → digits (suc k) v t ≡ found x rest → Stopped v t x rest ⊎ WentOn k v t x rest
step k v [] x rest e = inl (let w = same_found v x [] rest e in record { value = w.0; left = w.1 })
step k v (c ∷ t) x rest e =
    ⊎_elim {C = Stopped v (c ∷ t) x rest ⊎ WentOn k v (c ∷ t) x rest}
    (λ w.
    let f : c ∷ t ≡ (48 + w.0) ∷ t = ap (λ (b : ℕ). b ∷ t) w.1 in
    inr (record { digit = w.0; small = w.2; tail = t; front = f; goes_on = sym (digits_more k v w.0 t w.2) ∙ sym (ap (digits (suc k) v) f) ∙ e }))
    (λ o. inl (let w = same_found v x (c ∷ t) rest (rw o at e) in record { value = w.0; left = w.1 }))
    (is_or_not c)

-- a number and what stands behind it
pub record Numeral (s : List ℕ) (v : ℕ) (rest : List ℕ) : Type 0 where
  pub text : s ≡ decimal v ++ rest
  pub small : v < 1000

one_digit : (d : ℕ) (t : List ℕ) (x : ℕ) (rest : List ℕ) → d ≤ 9 → Stopped d t x rest → Numeral ((48 + d) ∷ t) x rest
one_digit d t x rest h w = record { text = rw (w.value, w.left, decimal_one d (omega arith)); small = omega (arith, w.value) }

two_digits : (d e : ℕ) (t : List ℕ) (x : ℕ) (rest : List ℕ) → d ≤ 9 → (d ≡ 0 → ⊥) → e ≤ 9 → Stopped (10 * d + e) t x rest → Numeral ((48 + d) ∷ (48 + e) ∷ t) x rest
two_digits d e t x rest h n k w =
    let v = w.value in
    let p : x / 10 ≡ d = omega arith in
    let q : x % 10 ≡ e = omega arith in
    record { text = rw (w.left, decimal_two x (omega arith) (omega arith), p, q); small = omega arith }

three_digits :
    (d e f : ℕ) (x : ℕ) (rest : List ℕ) → d ≤ 9 → (d ≡ 0 → ⊥) → e ≤ 9 → f ≤ 9 → x ≡ 10 * (10 * d + e) + f → Numeral ((48 + d) ∷ (48 + e) ∷ (48 + f) ∷ rest) x rest
three_digits d e f x rest h n k l v =
    let p : x / 100 ≡ d = omega arith in
    let q : x / 10 % 10 ≡ e = omega arith in
    let r : x % 10 ≡ f = omega arith in
    record { text = rw (decimal_three x (omega arith) (omega arith), p, q, r); small = omega arith }

from_digit : (d : ℕ) (t : List ℕ) (x : ℕ) (rest : List ℕ) → d ≤ 9 → (d ≡ 0 → ⊥) → digits 2 d t ≡ found x rest → Numeral ((48 + d) ∷ t) x rest
from_digit d t x rest h n e =
    ⊎_elim {C = Numeral ((48 + d) ∷ t) x rest} (one_digit d t x rest h)
    (λ w.
    rw w.front
    (⊎_elim {C = Numeral ((48 + d) ∷ (48 + w.digit) ∷ w.tail) x rest} (two_digits d w.digit w.tail x rest h n w.small)
    (λ u.
    let z = same_found (10 * (10 * d + w.digit) + u.digit) x u.tail rest u.goes_on in
    rw (u.front, ← z.1) (three_digits d w.digit u.digit x rest h n w.small u.small z.0))
    (step 0 (10 * d + w.digit) w.tail x rest w.goes_on)))
    (step 1 d t x rest e)

zero_or_not : (d : ℕ) (t : List ℕ) (x : ℕ) (rest : List ℕ) (z : Bool) → eqb d 0 ≡ z → d ≤ 9 → number ((48 + d) ∷ t) ≡ found x rest → Numeral ((48 + d) ∷ t) x rest
zero_or_not d t x rest true z h e =
    let w = same_found 0 x t rest (rw (eqb-true d 0 z) at e) in
    one_digit d t x rest h (record { value = w.0 ∙ sym (eqb-true d 0 z); left = w.1 })
zero_or_not d t x rest false z h e =
    from_digit d t x rest h (eqb-false d 0 z) (sym (number_starts d t h (eqb-false d 0 z)) ∙ e)

from_byte : (c : ℕ) (t : List ℕ) (x : ℕ) (rest : List ℕ) (d : ℕ) → c ≡ 48 + d → d ≤ 9 → number (c ∷ t) ≡ found x rest → Numeral (c ∷ t) x rest
from_byte c t x rest d q h e =
    let f : c ∷ t ≡ (48 + d) ∷ t = ap (λ (b : ℕ). b ∷ t) q in
    let w : Numeral ((48 + d) ∷ t) x rest = zero_or_not d t x rest (eqb d 0) refl h (sym (ap number f) ∙ e) in
    record { text = f ∙ w.text; small = w.small }

pub number_read : (s : List ℕ) (x : ℕ) (rest : List ℕ) → number s ≡ found x rest → Numeral s x rest
number_read [] x rest e = absurd (let z : ◌≡◌ {A = ℕ} 0 1 = cc in omega arith)
number_read (c ∷ t) x rest e =
    ⊎_elim {C = Numeral (c ∷ t) x rest} (λ w. from_byte c t x rest w.0 w.1 w.2 e)
    (λ o.
    let q : found x rest ≡ malformed = sym e ∙ no_number (c ∷ t) (rw o) in
    absurd (let z : ◌≡◌ {A = ℕ} 0 1 = cc in omega arith))
    (is_or_not c)
