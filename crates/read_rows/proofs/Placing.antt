-- The rows of one word of every qubit, stored qubit by qubit. Assumes nothing.
use mathlib.Core.Path.{◌≡◌, refl, ◌∙◌, ap}
use mathlib.Core.List.{List}
use mathlib.Core.Logic.{◌≢◌}
use Prim.Native.Nat.{ℕ, ◌+◌, ◌*◌, ◌%◌, ◌≤◌, ◌<◌}
use native.Mathlib.Decide.{dec_lt}
use native.Mathlib.Omega.{arith}
use lib.ListN.{get_or, set, length-set}
use lib.Seq.{get_or-set_same, get_or-set_other}
use Rattle.limits.specs.Limits.{most_qubits}
use Rattle.pauli.specs.Letters.{x, z}
use Rattle.packing.specs.View.{sign_words, Words}
use Rattle.words.specs.Bit.{bit}
use Rattle.read_rows.specs.Parts.Loading.{column_of, sign_of, Built, Placed}

-- the words of the first j qubits are stored, and all others are as they were
pub record Filled (s : List ℕ) (n first count g : ℕ) (old new : List ℕ) (j : ℕ) : Type 0 where
  pub words : Words new
  pub xs : (k : ℕ) → k < j → Built (λ i. x (column_of s n k (first + i))) count (get_or new (8 * k + g) 0)
  pub zs : (k : ℕ) → k < j → Built (λ i. z (column_of s n k (first + i))) count (get_or new (8 * k + 4 + g) 0)
  pub beside : (k : ℕ) → k % 4 ≢ g → get_or new k 0 ≡ get_or old k 0
  pub behind : (k : ℕ) → 8 * j ≤ k → get_or new k 0 ≡ get_or old k 0

pub filled_none : (s : List ℕ) (n first count g : ℕ) (w : List ℕ) → Words w → Filled s n first count g w w 0
filled_none s n first count g w l = record {
  words = l;
  xs = λ k h. absurd (omega arith);
  zs = λ k h. absurd (omega arith);
  beside = λ k h. refl;
  behind = λ k h. refl;
}

-- the words of one qubit more
module _ (s : List ℕ) (n first count g : ℕ) (old w : List ℕ) (j u v : ℕ) (gl : g < 4) (jl : j < most_qubits) (f : Filled s n first count g old w j)
    (a : Built (λ i. x (column_of s n j (first + i))) count u) (b : Built (λ i. z (column_of s n j (first + i))) count v) where
  abbrev half : List ℕ
  half = set w (8 * j + g) u

  abbrev full : List ℕ
  full = set half (8 * j + 4 + g) v

  x_stored : get_or full (8 * j + g) 0 ≡ u
  x_stored = get_or-set_other half (8 * j + 4 + g) (8 * j + g) v 0 (λ e. omega arith) ∙ get_or-set_same w (8 * j + g) u 0 (omega (arith, f.words))

  z_stored : get_or full (8 * j + 4 + g) 0 ≡ v
  z_stored = get_or-set_same half (8 * j + 4 + g) v 0 (omega (arith, length-set w (8 * j + g) u, f.words))

  other_kept : (k : ℕ) → k ≢ 8 * j + g → k ≢ 8 * j + 4 + g → get_or full k 0 ≡ get_or w k 0
  other_kept k p q = get_or-set_other half (8 * j + 4 + g) k v 0 q ∙ get_or-set_other w (8 * j + g) k u 0 p

  pub filled_more : Filled s n first count g old full (j + 1)
  filled_more = record {
    words = length-set half (8 * j + 4 + g) v ∙ length-set w (8 * j + g) u ∙ f.words;
    xs = λ k l. in_x k l (dec_lt k j);
    zs = λ k l. in_z k l (dec_lt k j);
    beside = λ k h. other_kept k (λ e. h (omega arith)) (λ e. h (omega arith)) ∙ f.beside k h;
    behind = λ k h. other_kept k (λ e. omega arith) (λ e. omega arith) ∙ f.behind k (omega arith);
  }
    where
      in_x : (k : ℕ) → k < j + 1 → Dec (k < j) → Built (λ i. x (column_of s n k (first + i))) count (get_or full (8 * k + g) 0)
      in_x k l (yes m) = λ i. ap (bit i) (other_kept (8 * k + g) (λ e. omega arith) (λ e. omega arith)) ∙ f.xs k m i
      in_x k l (no m) =
          let e : k ≡ j = omega arith in
          rw e (λ i. ap (bit i) x_stored ∙ a i)

      in_z : (k : ℕ) → k < j + 1 → Dec (k < j) → Built (λ i. z (column_of s n k (first + i))) count (get_or full (8 * k + 4 + g) 0)
      in_z k l (yes m) = λ i. ap (bit i) (other_kept (8 * k + 4 + g) (λ e. omega arith) (λ e. omega arith)) ∙ f.zs k m i
      in_z k l (no m) =
          let e : k ≡ j = omega arith in
          rw e (λ i. ap (bit i) z_stored ∙ b i)

-- and the signs
module _ (s : List ℕ) (n first count g : ℕ) (old w : List ℕ) (v : ℕ) (gl : g < 4) (nl : n ≤ most_qubits) (f : Filled s n first count g old w n)
    (a : Built (λ i. sign_of s n (first + i)) count v) where
  kept : (k : ℕ) → k ≢ sign_words + g → get_or (set w (sign_words + g) v) k 0 ≡ get_or w k 0
  kept k h = get_or-set_other w (sign_words + g) k v 0 h

  pub placed : Placed s n first count g old (set w (sign_words + g) v)
  placed = record {
    words = length-set w (sign_words + g) v ∙ f.words;
    xs = λ j l i. ap (bit i) (kept (8 * j + g) (λ e. omega arith)) ∙ f.xs j l i;
    zs = λ j l i. ap (bit i) (kept (8 * j + 4 + g) (λ e. omega arith)) ∙ f.zs j l i;
    signs = λ i. ap (bit i) (get_or-set_same w (sign_words + g) v 0 (omega (arith, f.words))) ∙ a i;
    beside = λ k h. kept k (λ e. h (omega arith)) ∙ f.beside k h;
    behind = λ k h l. kept k (λ e. omega arith) ∙ f.behind k h;
  }
