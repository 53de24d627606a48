-- A number in bytes, lowest byte first, and back. Assumes nothing.
use mathlib.Core.Path.{◌≡◌, refl, sym, ◌∙◌, ap, ap₂}
use mathlib.Core.List.{List, [], ◌∷◌}
use Prim.Native.Nat.{ℕ, zero, suc, ◌+◌, ◌*◌, ◌/◌, ◌%◌, ◌^◌, ◌<◌}
use native.Mathlib.Nat.{div-lt_iff_lt-mul, div-div-eq-div-mul, pow-suc}
use native.Mathlib.Decide.{dec_lt}
use native.Mathlib.Omega.{arith}
use lib.ListN.{length, get_or, take, drop, length-take, get_or-eq_default}
use lib.Seq.{get_or-take, get_or-drop}
use Rattle.std.specs.Int.{w16, w32, to_le_bytes, from_le_bytes}
use Rattle.records.specs.Record.{low_first}
use Rattle.records.specs.Reading.{number_in}

-- each is a byte
abbrev pub Bytes : List ℕ → Type 0
Bytes s = (i : ℕ) → get_or s i 0 < 256

pub number_low : (k v : ℕ) → v < 256 ^ k → number_in (low_first k v) ≡ v
unfolding number_in low_first
number_low zero v h = omega arith
number_low (suc k) v h =
    let l : v < 256 ^ k * 256 = rw pow-suc at h in
    let q : v / 256 < 256 ^ k = (div-lt_iff_lt-mul {k = 256} {x = v} {y = 256 ^ k} (omega arith)).1 l in
    omega (arith, number_low k (v / 256) q)

pub low_number : (bs : List ℕ) → Bytes bs → low_first (length bs) (number_in bs) ≡ bs
unfolding number_in low_first
low_number [] h = refl
low_number (b ∷ bs) h =
    let d : (b + 256 * number_in bs) % 256 ≡ b = omega (arith, h zero) in
    let q : (b + 256 * number_in bs) / 256 ≡ number_in bs = omega (arith, h zero) in
    ap₂ ◌∷◌ d (ap (low_first (length bs)) q ∙ low_number bs (λ i. h (suc i)))

-- so many bytes, as a number in so many bytes
pub low_part : (k : ℕ) (bs : List ℕ) → length bs ≡ k → Bytes bs → low_first k (number_in bs) ≡ bs
low_part k bs e h = ap (λ m. low_first m (number_in bs)) (sym e) ∙ low_number bs h

pub bytes_drop : (k : ℕ) (s : List ℕ) → Bytes s → Bytes (drop k s)
bytes_drop k s h i = rw get_or-drop (h (k + i))

pub bytes_take : (k : ℕ) (s : List ℕ) → Bytes s → Bytes (take k s)
bytes_take k s h i = go (dec_lt i k)
  where
    go : Dec (i < k) → get_or (take k s) i 0 < 256
    go (yes l) = rw (get_or-take k s i 0 l) (h i)
    go (no l) = rw (get_or-eq_default (take k s) 0 {n = i} (omega (arith, length-take k s))) (omega arith)

-- ---- as the library writes and reads numbers of two and of four bytes

pub low_two : (v : ℕ) → to_le_bytes w16 v ≡ low_first 2 v
unfolding low_first
low_two v = refl

pub low_four : (v : ℕ) → to_le_bytes w32 v ≡ low_first 4 v
unfolding low_first
low_four v =
    let b : v / 65536 ≡ v / 256 / 256 = sym (div-div-eq-div-mul v 256 256) in
    let c : v / 16777216 ≡ v / 256 / 256 / 256 = sym (div-div-eq-div-mul v 65536 256) ∙ ap (λ (q : ℕ). q / 256) b in
    ap₂ (λ (q r : ℕ). v % 256 ∷ v / 256 % 256 ∷ q % 256 ∷ r % 256 ∷ []) b c

pub in_two : (s : List ℕ) → length s ≡ 2 → from_le_bytes w16 s ≡ number_in s
unfolding number_in
in_two [] h = absurd (omega arith)
in_two (a ∷ []) h = absurd (omega arith)
in_two (a ∷ b ∷ []) h = omega arith
in_two (a ∷ b ∷ c ∷ s) h = absurd (omega arith)

pub in_four : (s : List ℕ) → length s ≡ 4 → from_le_bytes w32 s ≡ number_in s
unfolding number_in
in_four [] h = absurd (omega arith)
in_four (a ∷ []) h = absurd (omega arith)
in_four (a ∷ b ∷ []) h = absurd (omega arith)
in_four (a ∷ b ∷ c ∷ []) h = absurd (omega arith)
in_four (a ∷ b ∷ c ∷ d ∷ []) h = omega arith
in_four (a ∷ b ∷ c ∷ d ∷ e ∷ s) h = absurd (omega arith)
