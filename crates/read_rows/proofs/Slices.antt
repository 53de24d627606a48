-- Rows as bytes, eight rows to a byte for each qubit: turned over row by row, and put together as words. Assumes nothing.
use mathlib.Core.Path.{◌≡◌, refl, sym, ◌∙◌, ap, ap₂, subst}
use mathlib.Core.Bool.{Bool, true, false, ◌&&◌, cond}
use mathlib.Core.List.{List}
use Prim.Native.Nat.{ℕ, ◌+◌, ◌*◌, ◌/◌, ◌%◌, ◌^◌, ◌≤◌, ◌<◌}
use native.Mathlib.Decide.{dec_lt}
use native.Mathlib.Nat.{div-eq_of_lt, lt_of_lt_of_le, mod-eq_of_lt, one-mul, zero-mul}
use native.Mathlib.Omega.{arith}
use lib.Bits.{bit_xor}
use lib.Dec.{eqb, ltb}
use lib.ListN.{length, get_or, get_or-eq_default, set, length-set, replicate}
use lib.Pow.{pow-lt, pow_mono}
use lib.Seq.{get_or-set_same, get_or-set_other}
use mir.Val.{bool_byte}
use borrow.Author.Tests.{lt-ltb, le-ltb, eq-eqb, ne_eqb, eqb-true, eqb-false}
use Rattle.limits.specs.Limits.{most_qubits}
use Rattle.pauli.specs.Letters.{◌⊕◌}
use Rattle.words.specs.Bit.{bit}
use Rattle.words.proofs.Bytes.{from_bytes_bit}
use Rattle.std.specs.Int.{w64, from_le_bytes}
use Rattle.words.proofs.BitLaws.{bit-xor, bit-zero, bit-pow}
use Rattle.read_rows.specs.Parts.Loading.{Built, Turned, Sliced}
use Rattle.packing.specs.Parts.Planes.{byte_place, plane_size, plane_bit}
use Rattle.read_rows.proofs.Stacks.{next_bit, zeros}

-- ---- a word of eight bytes

pub bit_high : (k m a : ℕ) → a < 2 ^ m → m ≤ k → bit k a ≡ false
unfolding bit
bit_high k m a h l = ap (λ (q : ℕ). eqb (q % 2) 1) (div-eq_of_lt (lt_of_lt_of_le h (pow_mono l)))

-- as the code gathers them
pub word_bits : (plane bytes : List ℕ) (j w : ℕ) → ((i : ℕ) → get_or plane i 0 < 256) → length bytes ≡ 8 → ((k : ℕ) → k < 8 → get_or bytes k 0 ≡ get_or plane (byte_place k j) 0) → w ≡ from_le_bytes w64 bytes
    → (k : ℕ) → k < 64 → bit k w ≡ plane_bit plane k j
word_bits plane bytes j w fits l e f k h = from_bytes_bit bytes w k l (λ i. small i (dec_lt i 8)) f h ∙ ap (bit (k % 8)) (e (k / 8) (omega arith))
  where
    small : (i : ℕ) → Dec (i < 8) → get_or bytes i 0 < 256
    small i (yes u) = omega (arith, e i u, fits (byte_place i j))
    small i (no u) = omega (arith, get_or-eq_default bytes 0 {n = i} (omega (arith, l)))

pub built_word : (f : ℕ → ℕ → Bool) (n count : ℕ) (plane : List ℕ) (j w : ℕ) → Sliced f n count plane → count ≤ 64 → j < n → w < 2 ^ 64
    → ((k : ℕ) → k < 64 → bit k w ≡ plane_bit plane k j) → Built (f j) count w
built_word f n count plane j w s most h small a k = go (dec_lt k 64)
  where
    go : Dec (k < 64) → bit k w ≡ (ltb k count && f j k)
    go (yes l) = a k l ∙ s.bits j k h l
    go (no l) = bit_high k 64 w small (omega arith) ∙ rw (le-ltb k count (omega arith))

-- ---- one row's bits turned over

pub chosen_is : (on : Bool) (bit : ℕ) → bool_byte on * bit ≡ cond on bit 0
chosen_is true bit = one-mul bit
chosen_is false bit = zero-mul bit

pub chosen_fits : (on : Bool) (bit : ℕ) → bit < 2 ^ 8 → bool_byte on * bit < 2 ^ 8
chosen_fits true bit h = rw (one-mul bit) h
chosen_fits false bit h = rw (zero-mul bit) (omega arith)

pub turned_none : (f : ℕ → Bool) (bit from : ℕ) (old : List ℕ) → Turned f 0 bit from old old
turned_none f bit from old = record { length_kept = refl; inside = λ j h. absurd (omega arith); outside = λ c h. refl }

pub turned_count : {f : ℕ → Bool} {m n bit from : ℕ} {old new : List ℕ} → m ≡ n → Turned f m bit from old new → Turned f n bit from old new
turned_count {f} {m} {n} {bit} {from} {old} {new} e t = subst (λ (k : ℕ). Turned f k bit from old new) e t

pub turned_more : (f : ℕ → Bool) (j bit from : ℕ) (old new : List ℕ) (v : ℕ) → Turned f j bit from old new → from + j < length old → v ≡ bit_xor (get_or new (from + j) 0) (cond (f j) bit 0)
    → Turned f (j + 1) bit from old (set new (from + j) v)
turned_more f j bit from old new v t h e = record {
  length_kept = length-set new (from + j) v ∙ t.length_kept;
  inside = λ k l. go k l (dec_lt k j);
  outside = λ c u. get_or-set_other new (from + j) c v 0 (λ q. u j (omega arith) q) ∙ t.outside c (λ k l q. u k (omega arith) q);
}
  where
    go : (k : ℕ) → k < j + 1 → Dec (k < j) → get_or (set new (from + j) v) (from + k) 0 ≡ bit_xor (get_or old (from + k) 0) (cond (f k) bit 0)
    go k l (yes u) = get_or-set_other new (from + j) (from + k) v 0 (λ q. omega arith) ∙ t.inside k u
    go k l (no u) =
        let q : k ≡ j = omega arith in
        rw q (get_or-set_same new (from + j) v 0 (omega (arith, t.length_kept)) ∙ e ∙ ap (λ (b : ℕ). bit_xor b (cond (f j) bit 0)) (t.outside (from + j) (λ k l r. omega arith)))

-- ---- all rows

pub sliced_none : (f : ℕ → ℕ → Bool) (n : ℕ) → Sliced f n 0 (replicate plane_size 0)
sliced_none f n = record { bytes = refl; bits = λ j k h l. ap (bit (k % 8)) (zeros plane_size (byte_place (k / 8) j)) ∙ bit-zero (k % 8) ∙ rw (le-ltb k 0 (omega arith)) }

cond_bit : (b : Bool) (t p : ℕ) → bit t (cond b (2 ^ p) 0) ≡ (b && eqb t p)
cond_bit true t p = bit-pow t p
cond_bit false t p = bit-zero t

pub sliced_more : (f : ℕ → ℕ → Bool) (g : ℕ → Bool) (n i v : ℕ) (old new : List ℕ) → i < 64 → n ≤ most_qubits → Sliced f n i old → v ≡ (1 * 2 ^ (i % 8)) % 2 ^ 8 → ((j : ℕ) → j < n → g j ≡ f j i)
    → Turned g n v (most_qubits * (i / 8)) old new → Sliced f n (i + 1) new
sliced_more f g n i v old new hi most s ev eg t = record { bytes = t.length_kept ∙ s.bytes; bits = λ j k h l. go j k h l (dec_eq (k / 8) (i / 8)) }
  where
    dec_eq : (a b : ℕ) → Dec (a ≡ b)
    dec_eq a b = pick (eqb a b) refl
      where
        pick : (c : Bool) → eqb a b ≡ c → Dec (a ≡ b)
        pick true e = yes (eqb-true a b e)
        pick false e = no (eqb-false a b e)

    small : i % 8 < 8
    small = omega arith

    power : v ≡ 2 ^ (i % 8)
    power = ev ∙ ap (λ (q : ℕ). q % 2 ^ 8) (one-mul (2 ^ (i % 8))) ∙ mod-eq_of_lt (pow-lt small)

    same_place : (k : ℕ) → k / 8 ≡ i / 8 → eqb (k % 8) (i % 8) ≡ eqb k i
    same_place k e = pick (dec_eq k i)
      where
        pick : Dec (k ≡ i) → eqb (k % 8) (i % 8) ≡ eqb k i
        pick (yes q) = eq-eqb (k % 8) (i % 8) (omega arith) ∙ sym (eq-eqb k i q)
        pick (no q) = ne_eqb (k % 8) (i % 8) (λ r. q (omega arith)) ∙ sym (ne_eqb k i q)

    go : (j k : ℕ) → j < n → k < 64 → Dec (k / 8 ≡ i / 8) → plane_bit new k j ≡ (ltb k (i + 1) && f j k)
    go j k h l (yes e) =
        ap (λ (r : ℕ). bit (k % 8) (get_or new (byte_place r j) 0)) e ∙ ap (bit (k % 8)) (t.inside j h ∙ ap₂ (λ (b : Bool) (w : ℕ). bit_xor (get_or old (byte_place (i / 8) j) 0) (cond b w 0)) (eg j h) power)
        ∙ bit-xor (k % 8) _ _
        ∙ ap₂ ◌⊕◌ (ap (λ (r : ℕ). bit (k % 8) (get_or old (byte_place r j) 0)) (sym e) ∙ s.bits j k h l) (cond_bit (f j i) (k % 8) (i % 8) ∙ ap (λ (b : Bool). f j i && b) (same_place k e))
        ∙ next_bit (f j) k i
    go j k h l (no e) = ap (bit (k % 8)) (t.outside (byte_place (k / 8) j) (λ m u q. e (omega arith))) ∙ s.bits j k h l ∙ ap (λ (b : Bool). b && f j k) (later (dec_lt k i))
      where
        later : Dec (k < i) → ltb k i ≡ ltb k (i + 1)
        later (yes u) = lt-ltb k i u ∙ sym (lt-ltb k (i + 1) (omega arith))
        later (no u) =
            let q : i + 1 ≤ k = omega (arith, apart) in
            le-ltb k i (omega arith) ∙ sym (le-ltb k (i + 1) q)
          where
            apart : k ≡ i → ⊥
            apart q = e (ap (λ (m : ℕ). m / 8) q)
