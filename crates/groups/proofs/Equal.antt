-- Groups are equal, as the code's `==` tests it, exactly where the same rows are set in both. Assumes nothing.
use mathlib.Core.Path.{◌≡◌, sym, ap, ap₂, ◌∙◌}
use mathlib.Core.Bool.{Bool, true, ◌&&◌}
use Prim.Native.Nat.{ℕ, ◌+◌, ◌*◌, ◌/◌, ◌%◌, ◌^◌, ◌<◌}
use native.Mathlib.Omega.{arith}
use lib.Dec.{eqb}
use borrow.Author.Tests.{eqb-true, eq-eqb}
use Rattle.words.specs.Bit.{bit}
use Rattle.pauli.proofs.LetterLaws.{both}
use Rattle.packing.proofs.Groups.{each_of, word_of}
use Rattle.packing.proofs.Determined.{same_bits}
use Rattle.groups.specs.declared.Group.{Group}
use Rattle.groups.specs.Parts.Rows.{words_of, row_bit, All}

abbrev pub equal : Group → Group → Bool
equal g h = eqb g.a h.a && (eqb g.b h.b && (eqb g.c h.c && eqb g.d h.d))

-- a group of machine words
pub record Fits (g : Group) : Type 0 where
  pub a : g.a < 2 ^ 64
  pub b : g.b < 2 ^ 64
  pub c : g.c < 2 ^ 64
  pub d : g.d < 2 ^ 64

pub same_rows : (g h : Group) → equal g h ≡ true → All (λ s. row_bit g s ≡ row_bit h s)
same_rows g h e s l =
    let p = both (eqb g.a h.a) _ e in
    let q = both (eqb g.b h.b) _ p.1 in
    let r = both (eqb g.c h.c) (eqb g.d h.d) q.1 in
    ap (bit (s % 64))
    (each_of (λ k. words_of g k ≡ words_of h k) (eqb-true g.a h.a p.0) (eqb-true g.b h.b q.0) (eqb-true g.c h.c r.0) (eqb-true g.d h.d r.1) (s / 64) (word_of s l))

pub same_groups : (g h : Group) → Fits g → Fits h → All (λ s. row_bit g s ≡ row_bit h s) → equal g h ≡ true
same_groups g h f e r = rw (same 0 (omega arith) f.a e.a, same 1 (omega arith) f.b e.b, same 2 (omega arith) f.c e.c, same 3 (omega arith) f.d e.d)
  where
    same : (k : ℕ) → k < 4 → words_of g k < 2 ^ 64 → words_of h k < 2 ^ 64 → eqb (words_of g k) (words_of h k) ≡ true
    same k l gl hl = eq-eqb (words_of g k) (words_of h k) (same_bits 64 (words_of g k) (words_of h k) gl hl at)
      where
        at : (b : ℕ) → b < 64 → bit b (words_of g k) ≡ bit b (words_of h k)
        at b m =
            let p : (64 * k + b) / 64 ≡ k = omega arith in
            let q : (64 * k + b) % 64 ≡ b = omega arith in
            sym (ap₂ (λ (i j : ℕ). bit i (words_of g j)) q p) ∙ r (64 * k + b) (omega arith) ∙ ap₂ (λ (i j : ℕ). bit i (words_of h j)) q p
