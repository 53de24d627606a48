-- The coin strings of length k: there are 2 to the k of them, and each stands in the list at one place. Assumes nothing.
use mathlib.Core.Path.{◌≡◌, refl, sym, ◌∙◌, ap, ap₂}
use mathlib.Core.Bool.{Bool, true, false, cond}
use mathlib.Core.List.{List, [], ◌∷◌, map}
use Prim.Native.Nat.{ℕ, zero, suc, ◌+◌, ◌-◌, ◌^◌, ◌<◌}
use native.Mathlib.Nat.{two-pow-succ, pow-zero}
use native.Mathlib.Decide.{dec_lt}
use native.Mathlib.Omega.{arith}
use lib.ListN.{length, get_or, length-append, length-map, get_or-append}
use lib.Seq.{get_or-append-add}
use Rattle.readouts.specs.Coins.{strings, PlaceOf}

pub get_d_mapped : {A B : Type 0} (f : A → B) (l : List A) (i : ℕ) (d : A) (other : B) → i < length l → get_or (map f l) i other ≡ f (get_or l i d)
get_d_mapped f [] i d other h = absurd (omega arith)
get_d_mapped f (x ∷ l) zero d other h = refl
get_d_mapped f (x ∷ l) (suc i) d other h = get_d_mapped f l i d other (omega arith)

-- the strings that begin with 1 come behind all that begin with 0
abbrev offset : ℕ → Bool → ℕ
offset k b = cond b (length (strings k)) 0

both : (k : ℕ) → length (strings (suc k)) ≡ length (strings k) + length (strings k)
both k = length-append (map (◌∷◌ false) (strings k)) (map (◌∷◌ true) (strings k)) ∙ rw (length-map (strings k) (◌∷◌ false), length-map (strings k) (◌∷◌ true))

pub strings_many : (k : ℕ) → length (strings k) ≡ 2 ^ k
strings_many zero = sym (pow-zero 2)
strings_many (suc k) = both k ∙ rw (strings_many k) (sym (two-pow-succ k))

within : (k : ℕ) (b : Bool) (i : ℕ) → i < length (strings k) → offset k b + i < length (strings (suc k))
within k true i h = omega (arith, both k)
within k false i h = omega (arith, both k)

string_at : (k : ℕ) (b : Bool) (i : ℕ) → i < length (strings k) → get_or (strings (suc k)) (offset k b + i) [] ≡ b ∷ get_or (strings k) i []
string_at k true i h =
    ap (λ (m : ℕ). get_or (strings (suc k)) (m + i) []) (sym (length-map (strings k) (◌∷◌ false)))
    ∙ get_or-append-add (map (◌∷◌ false) (strings k)) (map (◌∷◌ true) (strings k)) i [] ∙ get_d_mapped (◌∷◌ true) (strings k) i [] [] h
string_at k false i h =
    let e : 0 + i ≡ i = omega arith in
    ap (λ (m : ℕ). get_or (strings (suc k)) m []) e
    ∙ get_or-append (map (◌∷◌ false) (strings k)) (map (◌∷◌ true) (strings k)) [] i (rw (length-map (strings k) (◌∷◌ false)) h) ∙ get_d_mapped (◌∷◌ false) (strings k) i [] [] h

-- a string is its first coin and a shorter string
record Half (k i : ℕ) : Type 0 where
  bit : Bool
  at : ℕ
  below : at < length (strings k)
  place : i ≡ offset k bit + at
  is : get_or (strings (suc k)) i [] ≡ bit ∷ get_or (strings k) at []

half : (k i : ℕ) → i < length (strings (suc k)) → Half k i
half k i h = go (dec_lt i (length (strings k)))
  where
    made : (b : Bool) (at : ℕ) → at < length (strings k) → i ≡ offset k b + at → Half k i
    made b at l e = record { bit = b; at = at; below = l; place = e; is = ap (λ (m : ℕ). get_or (strings (suc k)) m []) e ∙ string_at k b at l }

    go : Dec (i < length (strings k)) → Half k i
    go (yes l) = made false i l (omega arith)
    go (no l) = made true (i - length (strings k)) (omega (arith, both k)) (omega arith)

pub string_long : (k i : ℕ) → i < length (strings k) → length (get_or (strings k) i []) ≡ k
string_long zero zero h = refl
string_long zero (suc i) h = refl
string_long (suc k) i h = let x = half k i h in ap length x.is ∙ ap suc (string_long k x.at x.below)

pub string_once : (k i j : ℕ) → i < length (strings k) → j < length (strings k) → get_or (strings k) i [] ≡ get_or (strings k) j [] → i ≡ j
string_once zero i j h l e = omega arith
string_once (suc k) i j h l e = go (string_once k) (half k i h) (half k j l)
  where
    go : ((i j : ℕ) → i < length (strings k) → j < length (strings k) → get_or (strings k) i [] ≡ get_or (strings k) j [] → i ≡ j) → Half k i → Half k j → i ≡ j
    go ih x y =
        let q : x.bit ∷ get_or (strings k) x.at [] ≡ y.bit ∷ get_or (strings k) y.at [] = sym x.is ∙ e ∙ y.is in
        let b : x.bit ≡ y.bit = cc in
        let at : x.at ≡ y.at = ih x.at y.at x.below y.below cc in
        x.place ∙ ap₂ (λ b at. offset k b + at) b at ∙ sym y.place

pub string_place : (s : List Bool) → PlaceOf (strings (length s)) [] s
string_place [] = record { place = 0; within = omega arith; is = refl }
string_place (b ∷ s) =
    let w = string_place s in
    record { place = offset (length s) b + w.place; within = within (length s) b w.place w.within; is = string_at (length s) b w.place w.within ∙ ap (◌∷◌ b) w.is }
