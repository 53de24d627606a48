-- Gates and both kinds of measurement keep a tableau properly paired. Assumes nothing.
use mathlib.Core.Path.{◌≡◌, refl, sym, ◌∙◌}
use mathlib.Core.Bool.{Bool, true, false, ◌&&◌, cond}
use mathlib.Core.List.{[], ◌∷◌}
use Prim.Native.Nat.{ℕ, ◌<◌}
use lib.Dec.{eqb}
use borrow.Author.Tests.{eqb-true, eqb-false, eq-eqb, ne_eqb}
use Rattle.pauli.specs.Letters.{Letter, I, Z, ◌⊕◌, x, differ}
use Rattle.pauli.specs.Rows.{Letters, anticommute, Row, times_row}
use Rattle.pauli.proofs.Cases.{tested, bit, ltr}
use Rattle.pauli.proofs.Sums.{sum-cong, sum_one}
use Rattle.pauli.proofs.LetterLaws.{xor_adds, differ-none}
use Rattle.pauli.proofs.RowLaws.{anticommute-self, anticommute-swap, anticommute-mul}
use Rattle.clifford.specs.declared.Gate.{Gate}
use Rattle.clifford.specs.Gates.{Fits}
use Rattle.clifford.specs.Tableau.{Rows, Paired, gated, alone}
use Rattle.clifford.specs.Measurement.{cleared, collapsed}
use Rattle.clifford.proofs.GateLaws.{anticommute-new}

pub gate_paired : (n : ℕ) (g : Gate) (t : Rows) → Fits n g → Paired n t → Paired n (gated g t)
gate_paired n g t f k = record {
  destabilizers = λ i j hi hj. anticommute-new n g f _ _ ∙ k.destabilizers i j hi hj;
  stabilizers = λ i j hi hj. anticommute-new n g f _ _ ∙ k.stabilizers i j hi hj;
  partners = λ i j hi hj. anticommute-new n g f _ _ ∙ k.partners i j hi hj;
}

pub anticommute-z : (n a : ℕ) (r : Letters) → a < n → anticommute n r (alone Z a) ≡ x (r a)
anticommute-z n a r h = sum-cong xor_adds _ _ n (λ i b. go i (eqb i a) refl) ∙ sum_one xor_adds (x (r a)) a n h
  where
    law : (l : Letter) → differ l Z ≡ x l
    law = tested (ltr ∷ []) bit _ _ tt

    go : (i : ℕ) (c : Bool) → eqb i a ≡ c → differ (r i) (cond c Z I) ≡ cond c (x (r a)) false
    go i true e = rw (eqb-true i a e) (law (r a))
    go i false e = differ-none (r i)

module _ (n a : ℕ) (p : Row) where
  anticommute-cleared : (r : Row) (w : Letters) → anticommute n (cleared n a p r).letters w ≡ anticommute n r.letters w ⊕ (x (r.letters a) && anticommute n p.letters w)
  anticommute-cleared r w = go (x (r.letters a))
    where
      go : (c : Bool) → anticommute n (cond c (times_row n r p) r).letters w ≡ anticommute n r.letters w ⊕ (c && anticommute n p.letters w)
      go true = anticommute-mul n r.letters p.letters w
      go false = sym (xor_adds.right _)

  keeps : (b c : Bool) → b ≡ false → c ≡ false → b ⊕ c ≡ false
  keeps b c e f = rw (e, f)

  -- what commutes with p, commutes with it after
  cleared_p : (r : Row) → anticommute n r.letters p.letters ≡ false → anticommute n (cleared n a p r).letters p.letters ≡ false
  cleared_p r e = rw (anticommute-cleared r p.letters, e, anticommute-self n p.letters) (dead (x (r.letters a)))
    where
      dead : (b : Bool) → false ⊕ (b && false) ≡ false
      dead = tested (bit ∷ []) bit _ _ tt

  cleared_both : (r t : Row) → anticommute n r.letters p.letters ≡ false → anticommute n t.letters p.letters ≡ false
      → anticommute n (cleared n a p r).letters (cleared n a p t).letters ≡ anticommute n r.letters t.letters
  cleared_both r t e f =
      rw (anticommute-cleared r (cleared n a p t).letters, anticommute-swap n p.letters (cleared n a p t).letters, cleared_p t f, anticommute-swap n r.letters (cleared n a p t).letters, anticommute-cleared t r.letters, anticommute-swap n p.letters r.letters, e)
      (dead (x (r.letters a)) (x (t.letters a)) _ ∙ anticommute-swap n t.letters r.letters)
    where
      dead : (b c d : Bool) → d ⊕ (c && false) ⊕ (b && false) ≡ d
      dead = tested (bit ∷ bit ∷ bit ∷ []) bit _ _ tt

  cleared_z : (r : Row) → a < n → x (p.letters a) ≡ true → anticommute n (cleared n a p r).letters (alone Z a) ≡ false
  cleared_z r h e = rw (anticommute-cleared r (alone Z a), anticommute-z n a r.letters h, anticommute-z n a p.letters h, e) (dead (x (r.letters a)))
    where
      dead : (b : Bool) → b ⊕ (b && true) ≡ false
      dead = tested (bit ∷ []) bit _ _ tt

pub collapsed_paired : (n a p : ℕ) (coin : Bool) (t : Rows) → a < n → p < n → x ((t.stabilizer p).letters a) ≡ true → Paired n t → Paired n (collapsed n a p coin t)
collapsed_paired n a p coin t ha hp e k = record {
  destabilizers = λ i j hi hj. go_dd i j hi hj (eqb i p) (eqb j p) refl refl;
  stabilizers = λ i j hi hj. go_ss i j hi hj (eqb i p) (eqb j p) refl refl;
  partners = λ i j hi hj. go_ds i j hi hj (eqb i p) (eqb j p) refl refl;
}
  where
    P : Row
    P = t.stabilizer p

    zr : Row
    zr = record { minus = coin; letters = alone Z a }

    other : (i : ℕ) → i < n → eqb i p ≡ false → anticommute n (t.destabilizer i).letters P.letters ≡ false
    other i hi e = k.partners i p hi hp ∙ e

    go_dd : (i j : ℕ) → i < n → j < n → (c d : Bool) → eqb i p ≡ c → eqb j p ≡ d
        → anticommute n (cond c P (cleared n a P (t.destabilizer i))).letters (cond d P (cleared n a P (t.destabilizer j))).letters ≡ false
    go_dd i j hi hj true true q r = anticommute-self n P.letters
    go_dd i j hi hj true false q r = anticommute-swap n P.letters (cleared n a P (t.destabilizer j)).letters ∙ cleared_p n a P (t.destabilizer j) (other j hj r)
    go_dd i j hi hj false true q r = cleared_p n a P (t.destabilizer i) (other i hi q)
    go_dd i j hi hj false false q r = cleared_both n a P (t.destabilizer i) (t.destabilizer j) (other i hi q) (other j hj r) ∙ k.destabilizers i j hi hj

    go_ss : (i j : ℕ) → i < n → j < n → (c d : Bool) → eqb i p ≡ c → eqb j p ≡ d
        → anticommute n (cond c zr (cleared n a P (t.stabilizer i))).letters (cond d zr (cleared n a P (t.stabilizer j))).letters ≡ false
    go_ss i j hi hj true true q r = anticommute-self n (alone Z a)
    go_ss i j hi hj true false q r = anticommute-swap n (alone Z a) (cleared n a P (t.stabilizer j)).letters ∙ cleared_z n a P (t.stabilizer j) ha e
    go_ss i j hi hj false true q r = cleared_z n a P (t.stabilizer i) ha e
    go_ss i j hi hj false false q r = cleared_both n a P (t.stabilizer i) (t.stabilizer j) (k.stabilizers i p hi hp) (k.stabilizers j p hj hp) ∙ k.stabilizers i j hi hj

    go_ds : (i j : ℕ) → i < n → j < n → (c d : Bool) → eqb i p ≡ c → eqb j p ≡ d
        → anticommute n (cond c P (cleared n a P (t.destabilizer i))).letters (cond d zr (cleared n a P (t.stabilizer j))).letters ≡ eqb i j
    go_ds i j hi hj true true q r = anticommute-z n a P.letters ha ∙ e ∙ sym (eq-eqb i j (eqb-true i p q ∙ sym (eqb-true j p r)))
    go_ds i j hi hj true false q r =
        anticommute-swap n P.letters (cleared n a P (t.stabilizer j)).letters ∙ cleared_p n a P (t.stabilizer j) (k.stabilizers j p hj hp)
        ∙ sym (ne_eqb i j (λ u. eqb-false j p r (sym u ∙ eqb-true i p q)))
    go_ds i j hi hj false true q r = cleared_z n a P (t.destabilizer i) ha e ∙ sym (ne_eqb i j (λ u. eqb-false i p q (u ∙ eqb-true j p r)))
    go_ds i j hi hj false false q r = cleared_both n a P (t.destabilizer i) (t.stabilizer j) (other i hi q) (k.stabilizers j p hj hp) ∙ k.partners i j hi hj
