-- A trailer is known by the numbers that stand in it. Assumes nothing.
use mathlib.Core.Path.{◌≡◌, sym, ◌∙◌, ap, ap₂}
use mathlib.Core.Bool.{true}
use mathlib.Core.List.{List, [], ◌∷◌, ◌++◌}
use Prim.Native.Nat.{ℕ, ◌+◌}
use native.Mathlib.Omega.{arith}
use lib.Dec.{eqb}
use lib.ListN.{length, get_or, take, drop, take-append-drop, length-drop}
use lib.Seq.{length-take-le, take-add, get_or-drop}
use borrow.Author.Tests.{eqb-true}
use Rattle.pauli.proofs.LetterLaws.{both}
use Rattle.records.specs.Record.{low_first, to_rows, trailer}
use Rattle.records.specs.Reading.{number_in}
use Rattle.records.proofs.Numbers.{Bytes, low_part, bytes_take, bytes_drop}
use Rattle.records.proofs.Ending.{sealed_by}

two : (l : List ℕ) (a b : ℕ) → length l ≡ 2 → get_or l 0 0 ≡ a → get_or l 1 0 ≡ b → l ≡ a ∷ b ∷ []
two [] a b h e f = absurd (omega arith)
two (c ∷ []) a b h e f = absurd (omega arith)
two (c ∷ d ∷ []) a b h e f = ap₂ (λ x y. x ∷ y ∷ []) e f
two (c ∷ d ∷ x ∷ l) a b h e f = absurd (omega arith)

-- twelve bytes that say a trailer's numbers are that trailer
pub trailer_again : (w : List ℕ) (n count : ℕ) → length w ≡ 12 → Bytes w → number_in (take 4 w) ≡ to_rows n → number_in (take 4 (drop 4 w)) ≡ to_rows n + count
    → number_in (take 2 (drop 8 w)) ≡ n → sealed_by w ≡ true → w ≡ trailer n count
unfolding trailer
trailer_again w n count k h a b c s =
    let seal = both (eqb (get_or w 10 0) 0x53) (eqb (get_or w 11 0) 0x52) s in
    let p : take 4 w ≡ low_first 4 (to_rows n) = sym (low_part 4 (take 4 w) (length-take-le 4 w (omega arith)) (bytes_take 4 w h)) ∙ ap (low_first 4) a in
    let q : take 4 (drop 4 w) ≡ low_first 4 (to_rows n + count) =
    sym (low_part 4 (take 4 (drop 4 w)) (length-take-le 4 (drop 4 w) (omega (arith, length-drop 4 w))) (bytes_take 4 (drop 4 w) (bytes_drop 4 w h))) ∙ ap (low_first 4) b in
    let r : take 2 (drop 8 w) ≡ low_first 2 n =
    sym (low_part 2 (take 2 (drop 8 w)) (length-take-le 2 (drop 8 w) (omega (arith, length-drop 8 w))) (bytes_take 2 (drop 8 w) (bytes_drop 8 w h))) ∙ ap (low_first 2) c in
    let m : drop 10 w ≡ 0x53 ∷ 0x52 ∷ [] = two (drop 10 w) 0x53 0x52 (length-drop 10 w ∙ omega arith) (get_or-drop 10 w 0 0 ∙ eqb-true _ _ seal.0) (get_or-drop 10 w 1 0 ∙ eqb-true _ _ seal.1) in
    sym (take-append-drop 10 w) ∙ ap (λ x. x ++ drop 10 w) (take-add 8 2 w ∙ ap (λ x. x ++ take 2 (drop 8 w)) (take-add 4 4 w))
    ∙ (λ i. p i ++ q i ++ r i ++ m i)
