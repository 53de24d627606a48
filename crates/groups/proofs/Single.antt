-- One row alone, by its word and its bit. Assumes nothing.
use mathlib.Core.Path.{◌≡◌, ap, ◌∙◌}
use mathlib.Core.Bool.{Bool, true, false, ◌&&◌, cond}
use Prim.Native.Nat.{ℕ, ◌*◌, ◌/◌, ◌%◌, ◌^◌, ◌<◌}
use native.Mathlib.Nat.{mod-lt, zero-lt-suc}
use native.Mathlib.Omega.{arith}
use lib.Dec.{eqb}
use Rattle.std.proofs.lemmas.Bool.Decides.{nat_tests}
use Rattle.words.specs.Bit.{bit}
use Rattle.words.proofs.BitLaws.{bit-shl, bit-zero}
use Rattle.packing.specs.View.{row_count}
use Rattle.packing.specs.Parts.Changes.{four}
use Rattle.packing.proofs.Groups.{each_of, word_of}

-- bit i, if wanted
bit-when : (k i : ℕ) (on : Bool) → i < 64 → bit k (cond on ((1 * 2 ^ i) % 2 ^ 64) 0) ≡ (on && eqb k i)
bit-when k i true l = bit-shl k i l
bit-when k i false l = bit-zero k

-- the number of a row, by its word and its bit
number : (s t : ℕ) → (eqb (t / 64) (s / 64) && eqb (s % 64) (t % 64)) ≡ eqb s t
number s t = grind (arith, nat_tests)

module _ (t a b c d : ℕ) where
  abbrev Word : ℕ → Type 0
  Word g = four a b c d g ≡ cond (eqb (t / 64) g) ((1 * 2 ^ (t % 64)) % 2 ^ 64) 0

  pub single : Word 0 → Word 1 → Word 2 → Word 3 → (s : ℕ) → s < row_count → bit (s % 64) (four a b c d (s / 64)) ≡ eqb s t
  single ea eb ec ed s l =
      ap (bit (s % 64)) (each_of Word ea eb ec ed (s / 64) (word_of s l)) ∙ bit-when (s % 64) (t % 64) (eqb (t / 64) (s / 64)) (mod-lt t (zero-lt-suc 63)) ∙ number s t
