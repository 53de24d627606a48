-- The laws of the row product's parts: powers as numbers, and the bytes of the answer. Assumes nothing.
use mathlib.Core.Path.{◌≡◌, sym, ◌∙◌, ap}
use mathlib.Core.Bool.{Bool, false}
use mathlib.Core.List.{List, ◌++◌}
use Prim.Native.Nat.{ℕ, zero, suc, ◌+◌, ◌-◌, ◌*◌, ◌%◌, ◌≤◌, ◌<◌}
use native.Mathlib.Omega.{arith}
use lib.Dec.{eqb}
use lib.ListN.{length, get_or, set, take}
use lib.Seq.{drop-set-lt}
use mir.Val.{bool_byte}
use Rattle.answers.specs.Verdict.{over}
use Rattle.answers.proofs.Writing.{written, written_more, written_all, length-written}
use Rattle.pauli.specs.Letters.{Power, ◌⊞◌, sign, odd, ◌·◌, power}
use Rattle.pauli.specs.Rows.{total, mul, minus_sign}
use Rattle.pauli.specs.Texts.{letter_byte, letter_of, sign_byte, spelled}
use Rattle.pauli.proofs.LetterLaws.{power_adds, add_assoc}
use Rattle.pauli.proofs.Listed.{length-listed, get_d_listed}
use Rattle.product.specs.Parts.Table.{power_number, letter_text}

-- ---- powers as numbers

pub number_below : (p : Power) → power_number p ≤ 3
number_below p = grind arith

number_plus : (p q : Power) → (power_number p + power_number q) % 4 ≡ power_number (p ⊞ q)
number_plus p q = grind arith

pub number_more : (sum : ℕ) (p q : Power) → sum % 4 ≡ power_number p → (sum + power_number q) % 4 ≡ power_number (p ⊞ q)
number_more sum p q e = omega (arith, number_plus p q)

pub number_odd : (p : Power) → eqb (power_number p % 2) 1 ≡ odd p
number_odd p = grind arith

-- an even power is minus exactly where it is two
pub number_sign : (p : Power) → odd p ≡ false → eqb (power_number p) 2 ≡ minus_sign p
number_sign p e = grind arith

-- ---- bytes

module _ (first second : List ℕ) (minus : Bool) where
  pub text_length : 1 ≤ length first → length (letter_text first second minus) ≡ length first
  text_length h =
      let e : suc (length first - 1) ≡ length first = omega arith in
      ap suc (length-listed (λ j. letter_byte (mul (spelled first).letters (spelled second).letters j)) (length first - 1)) ∙ e

  pub text_letter : (k : ℕ) → 1 ≤ k → k < length first → get_or (letter_text first second minus) k 0 ≡ letter_byte (letter_of (get_or first k 0) · letter_of (get_or second k 0))
  text_letter zero h l = absurd (omega arith)
  text_letter (suc k) h l = get_d_listed (λ j. letter_byte (mul (spelled first).letters (spelled second).letters j)) (length first - 1) k 0 (omega arith)

-- ---- the summed power

-- the power of i after the letters below k have been multiplied
abbrev pub phase_below : List ℕ → List ℕ → ℕ → Power
phase_below first second m = sign (spelled first).minus ⊞ sign (spelled second).minus ⊞ total m (spelled first).letters (spelled second).letters

pub record Summed (first second : List ℕ) (sum k : ℕ) : Type 0 where
  pub least : 1 ≤ k
  pub most : sum ≤ 4 + 3 * k
  pub is : sum % 4 ≡ power_number (phase_below first second (k - 1))

-- a minus counts as two
minus_number : (b : Bool) → 2 * bool_byte b ≡ power_number (sign b)
minus_number b = grind arith

pub sum-none : (first second : List ℕ) → Summed first second (2 * (bool_byte (eqb (get_or first 0 0) 45) + bool_byte (eqb (get_or second 0 0) 45))) 1
sum-none first second =
    let p = eqb (get_or first 0 0) 45 in
    let q = eqb (get_or second 0 0) 45 in
    let e : 2 * (bool_byte p + bool_byte q) ≡ power_number (sign p) + power_number (sign q) = omega (arith, minus_number p, minus_number q) in
    record {
      least = omega arith;
      most = omega (arith, e, number_below (sign p), number_below (sign q));
      is = rw e (number_plus (sign p) (sign q) ∙ ap power_number (sym (power_adds.right (sign p ⊞ sign q))));
    }

pub sum_more : (first second : List ℕ) (sum k x : ℕ) → Summed first second sum k → x ≡ power_number (power (letter_of (get_or first k 0)) (letter_of (get_or second k 0))) → Summed first second (sum + x) (k + 1)
sum_more first second sum zero x s e = absurd (omega (arith, s.least))
sum_more first second sum (suc k) x s e = record {
  least = omega arith;
  most = omega (arith, s.most, number_below (power (letter_of (get_or first (suc k) 0)) (letter_of (get_or second (suc k) 0))));
  is =
      let u : suc k - 1 ≡ k = omega arith in
      let v : suc k + 1 - 1 ≡ suc k = omega arith in
      let w : sum % 4 ≡ power_number (phase_below first second k) = s.is ∙ ap (λ (m : ℕ). power_number (phase_below first second m)) u in
      rw (e, v) (number_more sum (phase_below first second k) (power (letter_of (get_or first (suc k) 0)) (letter_of (get_or second (suc k) 0))) w
      ∙ ap power_number (add_assoc (sign (spelled first).minus ⊞ sign (spelled second).minus) (total k (spelled first).letters (spelled second).letters) (power (letter_of (get_or first (suc k) 0)) (letter_of (get_or second (suc k) 0)))));
}

-- ---- the written text

-- the first k bytes of the text are written
pub record Writing (first second : List ℕ) (minus : Bool) (old out : List ℕ) (k : ℕ) : Type 0 where
  pub least : 1 ≤ k
  pub most : k ≤ length first
  pub is : out ≡ written (letter_text first second minus) old k

module _ (first second : List ℕ) (minus : Bool) (old : List ℕ) (h : 1 ≤ length first) (room : length first ≤ length old) where
  pub write_sign : (b : ℕ) → b ≡ sign_byte minus → Writing first second minus (set old 0 b) (set old 0 b) 1
  write_sign b e = record {
    least = omega arith;
    most = h;
    is =
        ap (set old 0) e ∙ written_more (letter_text first second minus) old 0 (omega (arith, text_length first second minus h)) (omega arith)
        ∙ ap (λ (l : List ℕ). take 1 (letter_text first second minus) ++ l) (sym (drop-set-lt 1 old 0 b (omega arith)));
  }

  pub write_over : (b : ℕ) → over (letter_text first second minus) (set old 0 b) ≡ over (letter_text first second minus) old
  write_over b = ap (λ (l : List ℕ). letter_text first second minus ++ l) (drop-set-lt (length (letter_text first second minus)) old 0 b (omega (arith, text_length first second minus h)))

  pub write_letter : (out : List ℕ) (k b : ℕ) → k < length first → Writing first second minus old out k → b ≡ letter_byte (letter_of (get_or first k 0) · letter_of (get_or second k 0))
      → Writing first second minus old (set out k b) (k + 1)
  write_letter out k b l w e = record {
    least = omega arith;
    most = omega arith;
    is = rw (w.is, e, ← text_letter first second minus k w.least l) (written_more (letter_text first second minus) old k (omega (arith, text_length first second minus h)) (omega arith));
  }

  pub write_end : (out : List ℕ) (k : ℕ) → length first ≤ k → Writing first second minus old out k → out ≡ over (letter_text first second minus) old
  write_end out k l w = w.is ∙ written_all (letter_text first second minus) old k (omega (arith, w.most, text_length first second minus h))

  pub write_length : (out : List ℕ) (k : ℕ) → Writing first second minus old out k → length out ≡ length old
  write_length out k w = ap length w.is ∙ length-written (letter_text first second minus) old k (omega (arith, w.most, text_length first second minus h)) (omega (arith, w.most))
