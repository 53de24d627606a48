-- Numbers are read digit by digit, and stay below 1000. Assumes nothing.
use mathlib.Core.Bool.{Bool, true, false, cond}
use mathlib.Core.List.{List, [], ◌∷◌}
use mathlib.Core.Logic.{◌⊎◌, inl, inr, ⊎_elim}
use mathlib.Core.Path.{◌≡◌, refl, sym, ◌∙◌, ap}
use Rattle.std.specs.Prelude.{None, Some}
use Prim.Native.Nat.{ℕ, zero, suc, ◌+◌, ◌-◌, ◌*◌, ◌^◌, ◌≤◌, ◌<◌}
use native.Mathlib.Omega.{arith}
use native.Mathlib.Nat.{pow-suc, one-le-pow, mul-le-mul_left, mul-le-mul_right, le_trans}
use borrow.Author.Tests.{ne_eqb, leb-true, ltb-true, ltb-false}
use lib.Dec.{leb, ltb}
use lib.ListN.{length, get_or, drop}
use Rattle.circuit.specs.Lines.{found, malformed, is_digit, digits, number}
use Rattle.circuit.specs.Parts.Reading.{digit_value, Stands}
use Rattle.circuit.proofs.Positions.{front, past, digit_true}

-- a byte is that of a digit, or it is none
small_digit : (a b : Bool) (c : ℕ) → leb 48 c ≡ a → leb c 57 ≡ b → ((d : ℕ) × (c ≡ 48 + d) × (d ≤ 9)) ⊎ (is_digit c ≡ false)
small_digit true true c p q = inl (c - 48, omega (arith, leb-true 48 c p), omega (arith, leb-true c 57 q))
small_digit true false c p q = inr (rw (p, q))
small_digit false b c p q = inr (rw p)

pub is_or_not : (c : ℕ) → ((d : ℕ) × (c ≡ 48 + d) × (d ≤ 9)) ⊎ (is_digit c ≡ false)
is_or_not c = small_digit (leb 48 c) (leb c 57) c refl refl

back : (d : ℕ) → 48 + d - 48 ≡ d
back d = omega arith

value_of : (d : ℕ) (t : List ℕ) → d ≤ 9 → digit_value ((48 + d) ∷ t) ≡ Some d
value_of d t h = rw (digit_true d h, back d)

-- no digit at the front
no_digit : (c : ℕ) (t : List ℕ) → digit_value (c ∷ t) ≡ None → is_digit c ≡ false
no_digit c t q = ⊎_elim {C = is_digit c ≡ false}
    (λ w. let z : Some w.0 ≡ None = sym (value_of w.0 t w.2) ∙ (rw w.1 at q) in cc)
    (λ e. e)
    (is_or_not c)

pub digits_stop : (k v : ℕ) (t : List ℕ) → digit_value t ≡ None → digits k v t ≡ found v t
digits_stop zero v t q = refl
digits_stop (suc k) v [] q = refl
digits_stop (suc k) v (c ∷ t) q = rw (no_digit c t q)

pub no_number : (t : List ℕ) → digit_value t ≡ None → number t ≡ malformed
no_number [] q = refl
no_number (c ∷ t) q =
    let e : is_digit c ≡ false = no_digit c t q in
    let n : c ≡ 48 → ⊥ = λ p. (let z : is_digit 48 ≡ false = rw p at e in let y : ◌≡◌ {A = ℕ} 0 1 = cc in omega arith) in
    rw (ne_eqb c 48 n, e)

-- a digit at the front
pub number_starts : (d : ℕ) (t : List ℕ) → d ≤ 9 → (d ≡ 0 → ⊥) → number ((48 + d) ∷ t) ≡ digits 2 d t
number_starts d t h n = rw (ne_eqb (48 + d) 48 (λ e. n (omega arith)), digit_true d h, back d)

pub digits_more : (k v d : ℕ) (t : List ℕ) → d ≤ 9 → digits (suc k) v ((48 + d) ∷ t) ≡ digits k (10 * v + d) t
digits_more k v d t h = rw (digit_true d h, back d)

-- the digit at a position
pub record Digit (s : List ℕ) (at d : ℕ) : Type 0 where
  pub below : at < length s
  pub small : d ≤ 9
  pub stands : drop at s ≡ (48 + d) ∷ drop (at + 1) s

module _ (s : List ℕ) (at d : ℕ) (e : Some d ≡ digit_value (drop at s)) where
  is_digit_at : at < length s → Digit s at d
  is_digit_at h =
      let f : drop at s ≡ get_or s at 0 ∷ drop (at + 1) s = front s at h in
      ⊎_elim {C = Digit s at d}
      (λ w.
      let g : drop at s ≡ (48 + w.0) ∷ drop (at + 1) s = f ∙ ap (λ (c : ℕ). c ∷ drop (at + 1) s) w.1 in
      let k : Some d ≡ Some w.0 = e ∙ ap digit_value g ∙ value_of w.0 (drop (at + 1) s) w.2 in
      let q : d ≡ w.0 = cc in
      record { below = h; small = omega (arith, w.2); stands = rw q g })
      (λ o. let z : Some d ≡ None = e ∙ ap digit_value f ∙ ap (λ (y : Bool). cond y (Some (get_or s at 0 - 48)) None) o in cc)
      (is_or_not (get_or s at 0))

  digit_or_past : (b : Bool) → ltb at (length s) ≡ b → Digit s at d
  digit_or_past true h = is_digit_at (ltb-true at (length s) h)
  digit_or_past false h = let z : Some d ≡ None = e ∙ rw (past s at (ltb-false at (length s) h)) in cc

  pub digit_at : Digit s at d
  digit_at = digit_or_past (ltb at (length s)) refl

-- one digit more
module _ (v l : ℕ) (h : suc v * 10 ^ l ≤ 1000) where
  pub below_thousand : v < 1000
  below_thousand = le_trans (omega (arith, mul-le-mul_left (suc v) (one-le-pow l 10 (omega arith)))) h

pub digit_more : (v l d : ℕ) → suc v * 10 ^ suc l ≤ 1000 → d ≤ 9 → suc (10 * v + d) * 10 ^ l ≤ 1000
digit_more v l d h s = omega (arith, rw pow-suc at h, mul-le-mul_right (10 ^ l) s)

-- a number that is being read: what the digits from next on make of the value so far
pub record Reading (s : List ℕ) (at value next left : ℕ) : Type 0 where
  pub same : number (drop at s) ≡ digits left value (drop next s)
  pub after : at < next
  pub within : next ≤ length s
  pub small : suc value * 10 ^ left ≤ 1000

module _ (s : List ℕ) (at : ℕ) where
  pub number_zero : (d : ℕ) → Digit s at d → d ≡ 0 → Stands number s at 0 (at + 1)
  number_zero d h e = record { reads = rw (h.stands, e); after = omega arith; within = omega (arith, h.below) }

  pub begun : (d : ℕ) → Digit s at d → (d ≡ 0 → ⊥) → Reading s at d (at + 1) 2
  begun d h n = record { same = ap number h.stands ∙ number_starts d (drop (at + 1) s) h.small n; after = omega arith; within = omega (arith, h.below); small = omega (arith, h.small) }

  more_suc : (v next l d : ℕ) → Reading s at v next (suc l) → Digit s next d → Reading s at (10 * v + d) (next + 1) l
  more_suc v next l d r h =
      record {
        same = r.same ∙ ap (digits (suc l) v) h.stands ∙ digits_more l v d (drop (next + 1) s) h.small;
        after = omega (arith, r.after);
        within = omega (arith, h.below);
        small = digit_more v l d r.small h.small;
      }

  pub more : (v next l d : ℕ) → Reading s at v next l → 0 < l → Digit s next d → Reading s at (10 * v + d) (next + 1) (l - 1)
  more v next l d r p h =
      let e : l ≡ suc (l - 1) = omega arith in
      more_suc v next (l - 1) d (rw e at r) h

  pub stopped : (v next l : ℕ) → Reading s at v next l → digit_value (drop next s) ≡ None → Stands number s at v next
  stopped v next l r e = record { reads = r.same ∙ digits_stop l v (drop next s) e; after = r.after; within = r.within }

  pub ended : (v next l : ℕ) → Reading s at v next l → l ≤ 0 → Stands number s at v next
  ended v next l r h =
      let e : l ≡ 0 = omega arith in
      record { reads = r.same ∙ rw e; after = r.after; within = r.within }
