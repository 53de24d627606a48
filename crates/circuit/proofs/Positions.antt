-- What stands at a position of a text, as the definitions see it. Assumes nothing.
use mathlib.Core.Bool.{Bool, true, false, cond}
use mathlib.Core.List.{List, [], ◌∷◌, ◌++◌}
use Rattle.std.specs.Prelude.{None, Some}
use mathlib.Core.Path.{◌≡◌, refl, sym, ◌∙◌, ap}
use Prim.Native.Nat.{ℕ, ◌+◌, ◌≤◌, ◌<◌}
use native.Mathlib.Omega.{arith}
use native.Mathlib.Numerals.{add-one}
use borrow.Author.Tests.{le-leb, eqb-true, eq-eqb}
use lib.Dec.{eqb}
use lib.ListN.{length, get_or, drop, drop_of_length-le}
use lib.Seq.{drop-cons}
use Rattle.circuit.specs.Lines.{strip, is_digit}
use Rattle.circuit.specs.Parts.Reading.{digit_value}

module _ (s : List ℕ) (at : ℕ) where
  pub front : at < length s → drop at s ≡ get_or s at 0 ∷ drop (at + 1) s
  front h = rw (add-one, drop-cons s at 0)

  pub past : length s ≤ at → drop at s ≡ []
  past h = drop_of_length-le s h

pub strip_same : (s : List ℕ) (at b : ℕ) → at < length s → get_or s at 0 ≡ b → strip (b ∷ []) (drop at s) ≡ Some (drop (at + 1) s)
strip_same s at b h e = rw (front s at h, e, eq-eqb b b refl)

-- the byte of a digit
pub digit_true : (d : ℕ) → d ≤ 9 → is_digit (48 + d) ≡ true
digit_true d h = rw (le-leb 48 (48 + d) (omega arith), le-leb (48 + d) 57 (omega arith))

pub digit_byte : (c : ℕ) → 48 ≤ c → c ≤ 57 → is_digit c ≡ true
digit_byte c l h = rw (le-leb 48 c l, le-leb c 57 h)

pub digit_none : (s : List ℕ) (at : ℕ) → at < length s → is_digit (get_or s at 0) ≡ false → None ≡ digit_value (drop at s)
digit_none s at h e = rw (front s at h, e)

-- bytes that stand at the front
strip_cons : (b c : ℕ) (bs s rest : List ℕ) (z : Bool) → eqb b c ≡ z → strip (b ∷ bs) (c ∷ s) ≡ Some rest → (b ≡ c) × (strip bs s ≡ Some rest)
strip_cons b c bs s rest true z e = (eqb-true b c z, sym (ap (λ (y : Bool). cond y (strip bs s) None) z) ∙ e)
strip_cons b c bs s rest false z e =
    let q : None ≡ Some rest = sym (ap (λ (y : Bool). cond y (strip bs s) None) z) ∙ e in
    absurd (let k : ◌≡◌ {A = ℕ} 0 1 = cc in omega arith)

pub stripped : (bs s rest : List ℕ) → strip bs s ≡ Some rest → s ≡ bs ++ rest
stripped [] s rest e = cc
stripped (b ∷ bs) [] rest e = cc
stripped (b ∷ bs) (c ∷ s) rest e =
    let w = strip_cons b c bs s rest (eqb b c) refl e in
    λ i. sym w.0 i ∷ stripped bs s rest w.1 i
