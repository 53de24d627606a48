-- The start tableau is properly paired. Assumes nothing.
use mathlib.Core.Path.{◌≡◌, ◌∙◌}
use mathlib.Core.Bool.{Bool, false, cond}
use mathlib.Core.List.{[], ◌∷◌}
use Prim.Native.Nat.{ℕ}
use lib.Dec.{eqb}
use borrow.Author.Tests.{lt-ltb}
use Rattle.pauli.specs.Letters.{I, X, Z, x, differ}
use Rattle.pauli.proofs.Cases.{tested, bit}
use Rattle.pauli.proofs.Sums.{sum-cong, sum-zero, eqb_swap}
use Rattle.pauli.proofs.LetterLaws.{xor_adds}
use Rattle.clifford.specs.Tableau.{Paired, alone, start}
use Rattle.clifford.proofs.Pairing.{anticommute-z}

pub start_paired : (n : ℕ) → Paired n (start n)
start_paired n = record {
  destabilizers = λ i j hi hj. rw (lt-ltb i n hi, lt-ltb j n hj) (sum-cong xor_adds _ _ n (λ k b. xx (eqb k i) (eqb k j)) ∙ sum-zero xor_adds n);
  stabilizers = λ i j hi hj. rw (lt-ltb i n hi, lt-ltb j n hj) (sum-cong xor_adds _ _ n (λ k b. zz (eqb k i) (eqb k j)) ∙ sum-zero xor_adds n);
  partners = λ i j hi hj. rw (lt-ltb i n hi, lt-ltb j n hj) (anticommute-z n j (alone X i) hj ∙ bit-of (eqb j i) ∙ eqb_swap j i);
}
  where
    xx : (b c : Bool) → differ (cond b X I) (cond c X I) ≡ false
    xx = tested (bit ∷ bit ∷ []) bit _ _ tt

    zz : (b c : Bool) → differ (cond b Z I) (cond c Z I) ≡ false
    zz = tested (bit ∷ bit ∷ []) bit _ _ tt

    bit-of : (b : Bool) → x (cond b X I) ≡ b
    bit-of = tested (bit ∷ []) bit _ _ tt
