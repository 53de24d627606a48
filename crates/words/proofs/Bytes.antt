-- The bits of a word by its bytes, which the library gives and takes lowest first. Assumes nothing.
use mathlib.Core.Path.{◌≡◌, refl, sym, ◌∙◌, ap}
use mathlib.Core.Bool.{Bool, ◌&&◌, and-true}
use mathlib.Core.List.{List}
use Prim.Native.Nat.{ℕ, zero, suc, ◌+◌, ◌-◌, ◌*◌, ◌/◌, ◌%◌, ◌^◌, ◌<◌}
use native.Mathlib.Nat.{div-one}
use native.Mathlib.Omega.{arith}
use lib.Bits.{and_mask}
use lib.Dec.{eqb}
use lib.ListN.{length, get_or}
use lib.Pow.{shr-shr}
use Rattle.std.specs.Int.{w64, to_le_bytes, from_le_bytes}
use Rattle.std.proofs.lemmas.Nat.{le_bytes_8}
use Rattle.words.specs.Bit.{bit}
use Rattle.words.proofs.BitLaws.{bit-and, bit-ones}

low_bit : (k v : ℕ) → k < 8 → bit k (v % 256) ≡ bit k v
low_bit k v h = ap (bit k) (sym (and_mask v 8)) ∙ bit-and k v (2 ^ 8 - 1) ∙ ap (λ (b : Bool). bit k v && b) (bit-ones 8 k h) ∙ and-true (bit k v)

shifted_bit : (k s v : ℕ) → bit k (v / 2 ^ s) ≡ bit (s + k) v
unfolding bit
shifted_bit k s v = ap (λ (q : ℕ). eqb (q % 2) 1) (shr-shr v s k)

byte_is : (v r : ℕ) → r < 8 → get_or (to_le_bytes w64 v) r 0 ≡ v / 2 ^ (8 * r) % 256
byte_is v zero h = ap (λ (q : ℕ). q % 256) (sym (div-one v))
byte_is v (suc zero) h = refl
byte_is v (suc (suc zero)) h = refl
byte_is v (suc (suc (suc zero))) h = refl
byte_is v (suc (suc (suc (suc zero)))) h = refl
byte_is v (suc (suc (suc (suc (suc zero))))) h = refl
byte_is v (suc (suc (suc (suc (suc (suc zero)))))) h = refl
byte_is v (suc (suc (suc (suc (suc (suc (suc zero))))))) h = refl
byte_is v (suc (suc (suc (suc (suc (suc (suc (suc r)))))))) h = absurd (omega arith)

-- bit k of a word is in byte k / 8
pub byte_bit : (v k : ℕ) → k < 64 → bit (k % 8) (get_or (to_le_bytes w64 v) (k / 8) 0) ≡ bit k v
byte_bit v k h =
    let c : 8 * (k / 8) + k % 8 ≡ k = omega arith in
    ap (bit (k % 8)) (byte_is v (k / 8) (omega arith)) ∙ low_bit (k % 8) (v / 2 ^ (8 * (k / 8))) (omega arith) ∙ shifted_bit (k % 8) (8 * (k / 8)) v ∙ ap (λ (m : ℕ). bit m v) c

-- and of one that is made of eight bytes
pub from_bytes_bit : (bs : List ℕ) (v k : ℕ) → length bs ≡ 8 → ((i : ℕ) → get_or bs i 0 < 256) → v ≡ from_le_bytes w64 bs → k < 64 → bit k v ≡ bit (k % 8) (get_or bs (k / 8) 0)
from_bytes_bit bs v k l b e h = sym (byte_bit v k h) ∙ ap (λ (s : List ℕ). bit (k % 8) (get_or s (k / 8) 0)) (le_bytes_8 bs v l b e)
