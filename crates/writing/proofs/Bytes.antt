-- Planes made byte by byte out of words, and the test of one bit of a byte. Assumes nothing.
use mathlib.Core.Path.{◌≡◌, sym, ◌∙◌, ap}
use mathlib.Core.List.{List}
use Prim.Native.Nat.{ℕ, zero, suc, ◌+◌, ◌-◌, ◌*◌, ◌/◌, ◌%◌, ◌^◌, ◌≤◌, ◌<◌}
use native.Mathlib.Decide.{dec_lt}
use native.Mathlib.Nat.{mod-lt, zero-lt-suc, mod-eq_of_lt, one-mul, zero-mul}
use native.Mathlib.Omega.{arith}
use lib.Bits.{bit_and, and_high}
use lib.Dec.{eqb}
use lib.ListN.{length, get_or, set, length-set}
use lib.Pow.{pow_pos, pow-lt, pow-add}
use lib.Seq.{get_or-set_same, get_or-set_other}
use borrow.Author.Tests.{eq-eqb, ne_eqb}
use Rattle.words.specs.Bit.{bit}
use Rattle.limits.specs.Limits.{most_qubits}
use Rattle.packing.specs.Parts.Planes.{byte_place, plane_size}
use Rattle.words.proofs.Bytes.{byte_bit}
use Rattle.writing.specs.Parts.Planes.{byte_of, Filled, PlaneOf}

-- ---- a plane

-- besides, the first r bytes of the next qubit are there
pub record Filling (w : List ℕ) (slot n r : ℕ) (p : List ℕ) : Type 0 where
  pub filled : Filled w slot n p
  pub next : (q : ℕ) → q < r → get_or p (byte_place q n) 0 ≡ byte_of w slot q n

pub filled_none : (w : List ℕ) (slot : ℕ) (p : List ℕ) → length p ≡ plane_size → Filled w slot 0 p
filled_none w slot p e = record { size = e; bytes = λ r j h l. absurd (omega arith) }

module _ (w : List ℕ) (slot n : ℕ) (p : List ℕ) where
  pub filling_none : Filled w slot n p → Filling w slot n 0 p
  filling_none f = record { filled = f; next = λ q h. absurd (omega arith) }

  pub filling_more : (r v : ℕ) → n < most_qubits → r < 8 → Filling w slot n r p → v ≡ byte_of w slot r n → Filling w slot n (r + 1) (set p (byte_place r n) v)
  filling_more r v most rl f e = record {
    filled = record {
      size = simp length-set f.filled.size;
      bytes = λ q j ql jl. get_or-set_other p (byte_place r n) (byte_place q j) v 0 (omega arith) ∙ f.filled.bytes q j ql jl;
    };
    next = λ q h. go q h (dec_lt q r);
  }
    where
      go : (q : ℕ) → q < r + 1 → Dec (q < r) → get_or (set p (byte_place r n) v) (byte_place q n) 0 ≡ byte_of w slot q n
      go q h (yes l) = get_or-set_other p (byte_place r n) (byte_place q n) v 0 (omega arith) ∙ f.next q l
      go q h (no l) =
          let k : q ≡ r = omega arith in
          rw k (get_or-set_same p (byte_place r n) v 0 (omega (arith, f.filled.size)) ∙ e)

  pub filling_all : (r : ℕ) → 8 ≤ r → Filling w slot n r p → Filled w slot (n + 1) p
  filling_all r all f = record { size = f.filled.size; bytes = λ q j ql jl. go q j ql jl (dec_lt j n) }
    where
      go : (q j : ℕ) → q < 8 → j < n + 1 → Dec (j < n) → get_or p (byte_place q j) 0 ≡ byte_of w slot q j
      go q j ql jl (yes l) = f.filled.bytes q j ql l
      go q j ql jl (no l) =
          let k : j ≡ n = omega arith in
          ap (λ (m : ℕ). get_or p (byte_place q m) 0) k ∙ f.next q (omega arith) ∙ ap (byte_of w slot q) (sym k)

  -- a plane whose bytes are there
  pub plane_made : Filled w slot n p → PlaneOf w slot n p
  plane_made f = record { bits = λ i j h l. ap (bit (i % 8)) (f.bytes (i / 8) j (omega arith) l) ∙ byte_bit (get_or w (8 * j + slot) 0) i h }

-- ---- the test of a bit

one_digit : (d p : ℕ) → d < 2 → eqb (d * 2 ^ p) (2 ^ p) ≡ eqb d 1
one_digit zero p h = ne_eqb (0 * 2 ^ p) (2 ^ p) (λ e. omega (arith, zero-mul (2 ^ p), pow_pos p))
one_digit (suc zero) p h = eq-eqb (1 * 2 ^ p) (2 ^ p) (one-mul (2 ^ p))
one_digit (suc (suc d)) p h = absurd (omega arith)

-- as the code's `b & bit == bit` has it, with `1 << p` for bit
pub has_bit : (b p : ℕ) → p < 8 → eqb (bit_and b ((1 * 2 ^ p) % 2 ^ 8)) ((1 * 2 ^ p) % 2 ^ 8) ≡ bit p b
unfolding bit
has_bit b p h =
    let e : (1 * 2 ^ p) % 2 ^ 8 ≡ 2 ^ p = ap (λ (q : ℕ). q % 2 ^ 8) (one-mul (2 ^ p)) ∙ mod-eq_of_lt (pow-lt h) in
    let m : 2 ^ (1 + p) - 2 ^ p ≡ 2 ^ p = omega (arith, pow-add 2 1 p) in
    rw e (ap (λ (q : ℕ). eqb q (2 ^ p)) (ap (bit_and b) (sym m) ∙ and_high b 1 p) ∙ one_digit (b / 2 ^ p % 2) p (mod-lt (b / 2 ^ p) (zero-lt-suc 1)))
