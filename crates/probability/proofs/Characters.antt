-- What the characters of a readout say: where they are good, and where one is not, or their number is another, that nothing else counts. Assumes nothing.
use mathlib.Core.Bool.{Bool, true, false, not, ◌||◌, true≢false}
use mathlib.Core.List.{List, [], ◌∷◌, map}
use Rattle.std.specs.Prelude.{Option, None, Some}
use mathlib.Core.Path.{◌≡◌, refl, sym, ◌∙◌, ap, ap₂, subst}
use Prim.Native.Nat.{ℕ, suc, ◌<◌}
use native.Mathlib.Omega.{arith}
use lib.Dec.{eqb}
use lib.ListN.{length, get_or}
use borrow.Author.Tests.{eqb-true, eq-eqb, ne_eqb, not-false}
use Rattle.answers.specs.Verdict.{Verdict, refused, unless, unless_at}
use Rattle.std.specs.List.{position}
use Rattle.answers.proofs.First.{position_lowest, Answer, lowest_is}
use Rattle.clifford.specs.Run.{coin}
use Rattle.readouts.specs.Readouts.{Weighed}
use Rattle.probability.specs.Probability.{is_value, value_of, first_other, well_stated}
use Rattle.probability.specs.ByRuns.{value_byte}

-- what the library finds is the first other character
pub found_first : (s : List ℕ) → position (λ b. not (is_value b)) s ≡ first_other s
found_first s = position_lowest (λ b. not (is_value b)) s

-- 15, 10, or what comes later
pub wrong_number : (s : List ℕ) (m : ℕ) → (length s ≡ m → ⊥) → (v : Verdict Weighed) → well_stated s m v ≡ refused 15 0
wrong_number s m h v = ap (λ (b : Bool). unless b 15 0 (unless_at 10 (first_other s) v)) (ne_eqb (length s) m h)

pub wrong_character : (s : List ℕ) (m at : ℕ) → length s ≡ m → first_other s ≡ Some at → (v : Verdict Weighed) → well_stated s m v ≡ refused 10 at
wrong_character s m at h e v =
    ap₂ (λ (b : Bool) (o : Option ℕ). unless b 15 0 (unless_at 10 o v)) (eq-eqb (length s) m h) e

pub all_good : (s : List ℕ) (m : ℕ) → length s ≡ m → first_other s ≡ None → (v : Verdict Weighed) → well_stated s m v ≡ v
all_good s m h e v = ap₂ (λ (b : Bool) (o : Option ℕ). unless b 15 0 (unless_at 10 o v)) (eq-eqb (length s) m h) e

-- what comes later counts only where all characters are good
pub later_counts : (s : List ℕ) (m : ℕ) (v w : Verdict Weighed) → (first_other s ≡ None → v ≡ w) → well_stated s m v ≡ well_stated s m w
later_counts s m v w f = go (first_other s) f
  where
    go : (o : Option ℕ) → (o ≡ None → v ≡ w) → unless (eqb (length s) m) 15 0 (unless_at 10 o v) ≡ unless (eqb (length s) m) 15 0 (unless_at 10 o w)
    go None g = ap (unless (eqb (length s) m) 15 0) (g refl)
    go (Some at) g = refl

-- the value of a good character is its lowest bit
value_coin : (b : ℕ) → is_value b ≡ true → value_of b ≡ coin b
value_coin b h = go (eqb b 48) (eqb b 49) refl refl h
  where
    go : (x y : Bool) → eqb b 48 ≡ x → eqb b 49 ≡ y → x || y ≡ true → value_of b ≡ coin b
    go true y e f g = let q : b ≡ 48 = eqb-true b 48 e in ap value_of q ∙ sym (ap coin q)
    go false true e f g = let q : b ≡ 49 = eqb-true b 49 f in ap value_of q ∙ sym (ap coin q)
    go false false e f g = absurd (true≢false (sym g))

values_coins : (s : List ℕ) → ((i : ℕ) → i < length s → is_value (get_or s i 0) ≡ true) → map value_of s ≡ map coin s
values_coins [] h = refl
values_coins (b ∷ s) h = ap₂ ◌∷◌ (value_coin b (h 0 (omega arith))) (values_coins s (λ i l. h (suc i) (omega arith)))

-- good characters are those that state their values
byte_back : (b : ℕ) → is_value b ≡ true → value_byte (value_of b) ≡ b
byte_back b h = go (eqb b 48) (eqb b 49) refl refl h
  where
    go : (x y : Bool) → eqb b 48 ≡ x → eqb b 49 ≡ y → x || y ≡ true → value_byte (value_of b) ≡ b
    go true y e f g = let q : b ≡ 48 = eqb-true b 48 e in ap (λ (k : ℕ). value_byte (value_of k)) q ∙ sym q
    go false true e f g = let q : b ≡ 49 = eqb-true b 49 f in ap (λ (k : ℕ). value_byte (value_of k)) q ∙ sym q
    go false false e f g = absurd (true≢false (sym g))

bytes_back : (s : List ℕ) → ((i : ℕ) → i < length s → is_value (get_or s i 0) ≡ true) → map value_byte (map value_of s) ≡ s
bytes_back [] h = refl
bytes_back (b ∷ s) h = ap₂ ◌∷◌ (byte_back b (h 0 (omega arith))) (bytes_back s (λ i l. h (suc i) (omega arith)))

no_others : (s : List ℕ) → first_other s ≡ None → (i : ℕ) → i < length s → is_value (get_or s i 0) ≡ true
no_others s e i l = not-false (is_value (get_or s i 0)) (others i l)
  where
    others : (i : ℕ) → i < length s → not (is_value (get_or s i 0)) ≡ false
    others = subst (Answer (λ i. not (is_value (get_or s i 0))) (length s)) e (lowest_is (λ i. not (is_value (get_or s i 0))) (length s))

pub values_back : (s : List ℕ) → first_other s ≡ None → map value_byte (map value_of s) ≡ s
values_back s e = bytes_back s (no_others s e)

pub coins_are_values : (s : List ℕ) → first_other s ≡ None → map coin s ≡ map value_of s
coins_are_values s e = sym (values_coins s (no_others s e))
