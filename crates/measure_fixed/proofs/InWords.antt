-- Rows in words, row r as bit r % 64 of word r / 64: sums over all rows are sums over the words, and what is done to the words is done to the rows, whichever
-- word they stand in. Assumes nothing.
use mathlib.Core.Path.{◌≡◌, refl, sym, ap, ap₂, ◌∙◌}
use mathlib.Core.Bool.{Bool, ◌&&◌}
use mathlib.Core.List.{List, [], ◌∷◌}
use Prim.Native.Nat.{ℕ, zero, suc, ◌+◌, ◌*◌, ◌/◌, ◌%◌, ◌<◌}
use native.Mathlib.Omega.{arith}
use borrow.Author.Count.{below_none, below_more}
use lib.Bits.{bit_and, bit_xor}
use lib.ListN.{get_or}
use Rattle.limits.specs.Limits.{most_qubits}
use Rattle.words.specs.Bit.{bit}
use Rattle.words.proofs.BitLaws.{bit-xor, bit-and}
use Rattle.pauli.specs.Letters.{◌⊕◌}
use Rattle.pauli.specs.Rows.{odd_number}
use Rattle.pauli.specs.Sums.{sum}
use Rattle.pauli.proofs.Cases as cases
use Rattle.pauli.proofs.Sums.{Adds, sum-cong}
use Rattle.pauli.proofs.LetterLaws.{xor_adds}
use Rattle.packing.specs.View.{bit_in, bit_at}
use Rattle.measure_fixed.specs.Parts.Column.{pair}
use Rattle.measure_fixed.proofs.Pass.{sum-append}

-- ---- sums

-- the bit of row 64 g + k
in_word : (b : ℕ → ℕ) (g k : ℕ) → k < 64 → bit_in b (64 * g + k) ≡ bit k (b g)
in_word b g k l =
    let e : (64 * g + k) % 64 ≡ k = omega arith in
    let f : (64 * g + k) / 64 ≡ g = omega arith in
    ap₂ (λ (i t : ℕ). bit i (b t)) e f

pub sum-words : {A : Type 0} {o : A} {plus : A → A → A} (a : Adds o plus) (f : Bool → A) (b : ℕ → ℕ) (k : ℕ)
    → sum o plus (λ r. f (bit_in b r)) (64 * k) ≡ sum o plus (λ g. sum o plus (λ i. f (bit i (b g))) 64) k
sum-words a f b zero = refl
sum-words {A} {o} {plus} a f b (suc k) =
    let e : 64 * suc k ≡ 64 * k + 64 = omega arith in
    ap (sum o plus (λ r. f (bit_in b r))) e ∙ sum-append a (λ r. f (bit_in b r)) (64 * k) 64
    ∙ ap₂ plus (sum-words a f b k) (sum-cong a (λ i. f (bit_in b (64 * k + i))) (λ i. f (bit i (b k))) 64 (λ i l. ap f (in_word b k i l)))

abbrev pub odd_bits : ℕ → Bool
odd_bits w = odd_number (λ k. bit k w) 64

-- ---- what words have

-- row r of B is that of the words b
pub record Has (B : ℕ → Bool) (b : ℕ → ℕ) : Type 0 where
  pub row : (r : ℕ) → r < most_qubits → B r ≡ bit_in b r

pub has_own : (b : ℕ → ℕ) → Has (bit_in b) b
has_own b = record { row = λ r l. refl }

pub has_and : {B C : ℕ → Bool} {b c : ℕ → ℕ} → Has B b → Has C c → Has (λ r. B r && C r) (λ g. bit_and (b g) (c g))
has_and {B} {C} {b} {c} p q = record { row = λ r l. ap₂ ◌&&◌ (p.row r l) (q.row r l) ∙ sym (bit-and (r % 64) (b (r / 64)) (c (r / 64))) }

pub has_xor : {B C : ℕ → Bool} {b c : ℕ → ℕ} → Has B b → Has C c → Has (λ r. B r ⊕ C r) (λ g. bit_xor (b g) (c g))
has_xor {B} {C} {b} {c} p q = record { row = λ r l. ap₂ ◌⊕◌ (p.row r l) (q.row r l) ∙ sym (bit-xor (r % 64) (b (r / 64)) (c (r / 64))) }

-- the words of a list of words from o on; those of the stabilizers stand behind those of the destabilizers
pub has_rows : (w : List ℕ) (o : ℕ) → Has (λ r. bit_at w o (most_qubits + r)) (λ g. get_or w (o + (2 + g)) 0)
has_rows w o = record {
  row = λ r l.
      let e : (most_qubits + r) % 64 ≡ r % 64 = omega arith in
      let f : (most_qubits + r) / 64 ≡ 2 + r / 64 = omega arith in
      ap₂ (λ (k t : ℕ). bit k (get_or w (o + t) 0)) e f;
}

-- words that are the same one by one
pub each_word : (P : ℕ → Type 0) → P 0 → P 1 → (r : ℕ) → r < most_qubits → P (r / 64)
each_word P a b r l = below_more P 1 (below_more P 0 (below_none P) a) b (r / 64) (omega arith)

pub has_same : {B : ℕ → Bool} {b : ℕ → ℕ} (c : ℕ → ℕ) → Has B b → b 0 ≡ c 0 → b 1 ≡ c 1 → Has B c
has_same {B} {b} c p e f = record { row = λ r l. p.row r l ∙ ap (bit (r % 64)) (each_word (λ g. b g ≡ c g) e f r l) }

-- an odd number of rows, by the words
pub odd_both : {B : ℕ → Bool} {b : ℕ → ℕ} → Has B b → odd_number B most_qubits ≡ odd_bits (b 0) ⊕ odd_bits (b 1)
odd_both {B} {b} p = sum-cong xor_adds B (bit_in b) most_qubits p.row ∙ sum-words xor_adds (λ t. t) b 2

swap : (a b : Bool) → a ⊕ b ≡ b ⊕ a
swap = cases.tested (cases.bit ∷ cases.bit ∷ []) cases.bit _ _ tt

-- the parity of the rows up to r: that of the words before its own, and that within its word, which q has
module _ {B : ℕ → Bool} {b : ℕ → ℕ} (h : Has B b) (q : ℕ → ℕ) where
  abbrev Parities : ℕ → Type 0
  Parities g = (k : ℕ) → k < 64 → bit k (q g) ≡ odd_number (λ i. bit i (b g)) (suc k)

  parity : (r : ℕ) → r < most_qubits → Parities (r / 64) → odd_number B (suc r) ≡ odd_number (λ g. odd_bits (b g)) (r / 64) ⊕ bit_in q r
  parity r l e =
      let g = r / 64 in
      let k = r % 64 in
      let kl : k < 64 = omega arith in
      let d : suc r ≡ 64 * g + suc k = omega arith in
      sum-cong xor_adds B (bit_in b) (suc r) (λ i c. h.row i (omega arith))
      ∙ ap (odd_number (bit_in b)) d ∙ sum-append xor_adds (bit_in b) (64 * g) (suc k)
      ∙ ap₂ ◌⊕◌ (sum-words xor_adds (λ t. t) b g)
      (sum-cong xor_adds (λ i. bit_in b (64 * g + i)) (λ i. bit i (b g)) (suc k) (λ i c. in_word b g i (omega arith)) ∙ sym (e k kl))

  -- the parities of the second word start from the last one of the first
  pub has_parities : Parities 0 → Parities 1 → (f : ℕ) → ((k : ℕ) → k < 64 → bit k f ≡ bit 63 (q 0)) → Has (λ r. odd_number B (suc r)) (pair (q 0) (bit_xor (q 1) f))
  has_parities e0 e1 f ef = record {
    row = λ r l. parity r l (each_word Parities e0 e1 r l)
        ∙ each_word (λ g. odd_number (λ t. odd_bits (b t)) g ⊕ bit (r % 64) (q g) ≡ bit (r % 64) (pair (q 0) (bit_xor (q 1) f) g)) refl (carried (r % 64) (omega arith)) r l;
  }
    where
      carried : (k : ℕ) → k < 64 → odd_bits (b 0) ⊕ bit k (q 1) ≡ bit k (bit_xor (q 1) f)
      carried k l = swap (odd_bits (b 0)) (bit k (q 1)) ∙ ap (λ (u : Bool). bit k (q 1) ⊕ u) (sym (ef k l ∙ e0 63 (omega arith))) ∙ sym (bit-xor k (q 1) f)
