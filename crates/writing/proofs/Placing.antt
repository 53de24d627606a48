-- Laws of a text placed in a buffer: nothing placed, one byte more, and one text behind another. Assumes nothing.
use mathlib.Core.Path.{◌≡◌, sym, ◌∙◌, ap, ap₂}
use mathlib.Core.List.{List, [], ◌∷◌, ◌++◌, append_assoc, append-nil}
use Prim.Native.Nat.{ℕ, suc, ◌+◌, ◌-◌, ◌≤◌, ◌<◌}
use native.Mathlib.Nat.{add-zero, zero-add}
use native.Mathlib.Numerals.{add-one}
use native.Mathlib.Omega.{arith}
use lib.ListN.{length, take, drop, set, length-append, length-take, length-drop, take-append-drop}
use lib.Seq.{length-take-le, take_at, drop_at, drop-drop, set_split, append_snoc}
use borrow.Rule.Slice.PartMut.{put_mid}
use Rattle.std.proofs.lemmas.List.{drop_all, take_rest}
use Rattle.answers.specs.Verdict.{over}

-- the bytes of old, but the text from this position on, as far as it goes
unfoldable pub placed : List ℕ → ℕ → List ℕ → List ℕ
placed old at text = take at old ++ text ++ drop (at + length text) old

pub placed_none : (old : List ℕ) (at : ℕ) → old ≡ placed old at []
unfolding placed
placed_none old at = sym (rw (append-nil, add-zero, take-append-drop))

pub placed_front : (old text : List ℕ) → placed old 0 text ≡ over text old
unfolding placed
placed_front old text = ap (λ (k : ℕ). text ++ drop k old) (zero-add (length text))

pub length-placed : (old : List ℕ) (at : ℕ) (s : List ℕ) → at + length s ≤ length old → length (placed old at s) ≡ length old
unfolding placed
length-placed old at s h = simp (length-append, length-take, length-drop) (omega arith)

-- a text that is put at the front of what begins at its place
pub rest_placed : (old new text : List ℕ) (at : ℕ) → at + length text ≤ length old → new ≡ over text (take (length old - at) (drop at old)) → put_mid at (length old - at) old new ≡ placed old at text
unfolding placed
rest_placed old new text at h en =
    let ep : take (length old - at) (drop at old) ≡ drop at old = take_rest old at in
    let none : drop (length old - at) (drop at old) ≡ [] = drop_all (length old - at) (drop at old) (omega (arith, length-drop at old)) in
    ap₂ (λ (s t : List ℕ). take at old ++ (s ++ t)) (en ∙ ap (λ (s : List ℕ). text ++ drop (length text) s) ep ∙ ap (λ (s : List ℕ). text ++ s) (drop-drop (length text) at old)) none
    ∙ ap (λ (s : List ℕ). take at old ++ s) (append-nil (text ++ drop (at + length text) old)) ∙ sym (append_assoc (take at old) text (drop (at + length text) old))

-- a text that is placed where the one before it ends
pub placed_more : (old : List ℕ) (at : ℕ) (s t : List ℕ) (p : ℕ) → p ≡ at + length s → p + length t ≤ length old → placed (placed old at s) p t ≡ placed old at (s ++ t)
unfolding placed
placed_more old at s t p e h =
    let front : length (take at old ++ s) ≡ at + length s = length-append (take at old) s ∙ ap (λ (k : ℕ). k + length s) (length-take-le at old (omega arith)) in
    let a : take (at + length s) (take at old ++ s ++ drop (at + length s) old) ≡ take at old ++ s = take_at (take at old ++ s) (drop (at + length s) old) (at + length s) front in
    let b : drop (at + length s) (take at old ++ s ++ drop (at + length s) old) ≡ drop (at + length s) old = drop_at (take at old ++ s) (drop (at + length s) old) (at + length s) front in
    let c : drop (at + length s + length t) (take at old ++ s ++ drop (at + length s) old) ≡ drop (at + length s + length t) old =
    sym (drop-drop (length t) (at + length s) (take at old ++ s ++ drop (at + length s) old)) ∙ ap (drop (length t)) b ∙ drop-drop (length t) (at + length s) old in
    let d : at + length s + length t ≡ at + length (s ++ t) = omega (arith, length-append s t) in
    rw e (ap₂ (λ (x y : List ℕ). x ++ t ++ y) a (c ∙ ap (λ (k : ℕ). drop k old) d) ∙ ap (λ (x : List ℕ). x ++ drop (at + length (s ++ t)) old) (append_assoc (take at old) s t))

-- a byte that is stored is a text of one
pub set_placed : (old : List ℕ) (p b : ℕ) → p < length old → set old p b ≡ placed old p (b ∷ [])
unfolding placed
set_placed old p b h = set_split old p b h ∙ sym (append_snoc (take p old) b (drop (suc p) old)) ∙ ap (λ (k : ℕ). take p old ++ (b ∷ []) ++ drop k old) (sym (add-one p))

-- a buffer that holds a text, and what is put behind it
module _ (old new : List ℕ) (at : ℕ) (s : List ℕ) (is : new ≡ placed old at s) where
  pub kept : at + length s ≤ length old → length new ≡ length old
  kept h = ap length is ∙ length-placed old at s h

  pub then_placed : (last : List ℕ) (p : ℕ) (t : List ℕ) → last ≡ placed new p t → p ≡ at + length s → p + length t ≤ length old → last ≡ placed old at (s ++ t)
  then_placed last p t e q h = e ∙ ap (λ o. placed o p t) is ∙ placed_more old at s t p q h

  pub then_byte : (p b : ℕ) (t : List ℕ) → s ++ b ∷ [] ≡ t → p ≡ at + length s → p < length old → set new p b ≡ placed old at t
  then_byte p b t e q h =
      let l : length new ≡ length old = kept (omega arith) in
      then_placed (set new p b) p (b ∷ []) (set_placed new p b (omega arith)) q (omega arith) ∙ ap (placed old at) e

-- a text that is put behind one at the front
pub put_behind : (old new part s text : List ℕ) (p : ℕ) → new ≡ placed old 0 s → p ≡ length s → p + length text ≤ length old → part ≡ over text (take (length new - p) (drop p new))
    → put_mid p (length new - p) new part ≡ placed old 0 (s ++ text)
put_behind old new part s text p is e h ep =
    let l : length new ≡ length old = kept old new 0 s is (omega arith) in
    then_placed old new 0 s is _ p text (rest_placed new part text p (omega arith) ep) (omega arith) (omega arith)
