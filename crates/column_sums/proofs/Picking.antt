-- Which sums a row's letters pick, and the sum of those. Assumes nothing.
use mathlib.Core.Path.{◌≡◌, refl, ◌∙◌, ap}
use mathlib.Core.Bool.{Bool, true, false, cond}
use mathlib.Core.List.{List}
use Prim.Native.Nat.{ℕ, ◌+◌, ◌*◌, ◌≤◌, ◌<◌}
use native.Mathlib.Decide.{dec_lt}
use native.Mathlib.Omega.{arith}
use lib.ListN.{length, get_or, set, length-set, take, drop, length-drop, get_or-eq_default}
use lib.Seq.{length-take-le, get_or-set_same, get_or-set_other, get_or-take, get_or-drop}
use Rattle.pauli.specs.Letters.{x, z}
use Rattle.pauli.specs.Rows.{odd_number}
use Rattle.pauli.specs.Texts.{letter_of}
use Rattle.groups.specs.declared.Group.{Group}
use Rattle.groups.specs.Parts.Rows.{row_bit, All}
use Rattle.column_sums.specs.Parts.Sums.{half_most, told_at, spelled_number, Picks}

pub number_small : (b : ℕ) → spelled_number b < 4
number_small b = go (x (letter_of b)) (z (letter_of b))
  where
    go : (p q : Bool) → cond p 1 0 + 2 * cond q 1 0 < 4
    go true true = omega arith
    go true false = omega arith
    go false true = omega arith
    go false false = omega arith

-- ---- which sums are picked

-- the numbers of the first j of these letters are there
pub record Numbered (letters : List ℕ) (j : ℕ) (p : List ℕ) : Type 0 where
  pub size : length p ≡ half_most
  pub numbers : (i : ℕ) → i < j → get_or p i 0 ≡ spelled_number (get_or letters i 0)

pub numbered_none : (letters p : List ℕ) → length p ≡ half_most → Numbered letters 0 p
numbered_none letters p e = record { size = e; numbers = λ i l. absurd (omega arith) }

pub numbered_more : (letters : List ℕ) (j : ℕ) (p : List ℕ) (v : ℕ) → j < half_most → Numbered letters j p → v ≡ spelled_number (get_or letters j 0) → Numbered letters (j + 1) (set p j v)
numbered_more letters j p v h a e = record { size = length-set p j v ∙ a.size; numbers = λ i l. go i l (dec_lt i j) }
  where
    go : (i : ℕ) → i < j + 1 → Dec (i < j) → get_or (set p j v) i 0 ≡ spelled_number (get_or letters i 0)
    go i l (yes u) = get_or-set_other p j i v 0 (λ q. omega arith) ∙ a.numbers i u
    go i l (no u) =
        let q : i ≡ j = omega arith in
        rw q (get_or-set_same p j v 0 (omega (arith, a.size)) ∙ e)

-- four times the numbers of the first j of these letters are added to what was there
pub record Added (letters : List ℕ) (j : ℕ) (old p : List ℕ) : Type 0 where
  pub size : length p ≡ length old
  pub added : (i : ℕ) → i < j → get_or p i 0 ≡ get_or old i 0 + 4 * spelled_number (get_or letters i 0)
  pub others : (i : ℕ) → j ≤ i → get_or p i 0 ≡ get_or old i 0

pub added_none : (letters p : List ℕ) → Added letters 0 p p
added_none letters p = record { size = refl; added = λ i l. absurd (omega arith); others = λ i l. refl }

pub added_more : (letters : List ℕ) (j : ℕ) (old p : List ℕ) (v : ℕ) → j < length old → Added letters j old p → v ≡ get_or old j 0 + 4 * spelled_number (get_or letters j 0) → Added letters (j + 1) old (set p j v)
added_more letters j old p v h a e = record {
  size = length-set p j v ∙ a.size;
  added = λ i l. go i l (dec_lt i j);
  others = λ i l. get_or-set_other p j i v 0 (λ q. omega arith) ∙ a.others i (omega arith);
}
  where
    go : (i : ℕ) → i < j + 1 → Dec (i < j) → get_or (set p j v) i 0 ≡ get_or old i 0 + 4 * spelled_number (get_or letters i 0)
    go i l (yes u) = get_or-set_other p j i v 0 (λ q. omega arith) ∙ a.added i u
    go i l (no u) =
        let q : i ≡ j = omega arith in
        rw q (get_or-set_same p j v 0 (omega (arith, a.size)) ∙ e)

-- both halves
module _ (letters : List ℕ) (half : ℕ) (most : half ≤ half_most) (l : half ≤ length letters) (h : length letters ≤ half + half) (p q : List ℕ) (low high : List ℕ) where
  pub picks_made : low ≡ take half letters → high ≡ drop half letters → Numbered low (length low) p → Added high (length high) p q → Picks letters half q
  picks_made el eh a b = record { size = b.size ∙ a.size; places = λ j v. place j v (dec_lt j (length high)) }
    where
      low_size : length low ≡ half
      low_size = ap length el ∙ length-take-le half letters l

      high_size : half + length high ≡ length letters
      high_size = omega (arith, ap length eh, length-drop half letters)

      first : (j : ℕ) → j < half → get_or p j 0 ≡ spelled_number (get_or letters j 0)
      first j v =
          let e : get_or low j 0 ≡ get_or letters j 0 = ap (λ (s : List ℕ). get_or s j 0) el ∙ get_or-take half letters j 0 v in
          a.numbers j (omega (arith, low_size)) ∙ ap spelled_number e

      place : (j : ℕ) → j < half → Dec (j < length high) → get_or q j 0 ≡ spelled_number (get_or letters j 0) + 4 * spelled_number (get_or letters (half + j) 0)
      place j v (yes u) =
          let e : get_or high j 0 ≡ get_or letters (half + j) 0 = ap (λ (s : List ℕ). get_or s j 0) eh ∙ get_or-drop half letters j 0 in
          omega (arith, b.added j u, first j v, ap spelled_number e)
      place j v (no u) =
          let e : get_or letters (half + j) 0 ≡ 0 = get_or-eq_default letters 0 {n = half + j} (omega (arith, high_size)) in
          omega (arith, b.others j (omega arith), first j v, ap spelled_number e)

pub picks_small : {letters : List ℕ} {half : ℕ} {p : List ℕ} → Picks letters half p → (j : ℕ) → j < half → get_or p j 0 < 16
picks_small {letters} {half} k j l = omega (arith, k.places j l, number_small (get_or letters j 0), number_small (get_or letters (half + j) 0))

-- ---- the sum of those picked

-- a group that is the sum of the first m
abbrev pub SumOf : List Group → List ℕ → ℕ → Group → Type 0
SumOf t p m g = All (λ s. row_bit g s ≡ odd_number (λ j. told_at t (16 * j + get_or p j 0) s) m)
