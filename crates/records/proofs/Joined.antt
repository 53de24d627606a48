-- Lists of one length, joined end to end: one more, two runs of them, the part at each place, and a list cut into such parts. Assumes nothing.
use mathlib.Core.Path.{◌≡◌, refl, sym, ◌∙◌, ap, ap₂}
use mathlib.Core.List.{List, [], ◌∷◌, ◌++◌, append_assoc, append-nil}
use Prim.Native.Nat.{ℕ, zero, suc, ◌+◌, ◌*◌, ◌<◌}
use native.Mathlib.Nat.{zero-add, suc-add, zero-mul, suc-mul, le_of_suc-le-suc}
use native.Mathlib.Omega.{arith}
use lib.ListN.{length, take, drop}
use lib.Seq.{take_at, take-add, drop-append-add}
use Rattle.pauli.specs.Texts.{listed}
use Rattle.pauli.proofs.Listed.{listed_ext}
use Rattle.records.specs.Record.{joined}

module _ {A : Type 0} where
  pub listed_more : (f : ℕ → A) (k : ℕ) → listed f (suc k) ≡ listed f k ++ f k ∷ []
  unfolding listed
  listed_more f zero = refl
  listed_more f (suc k) = ap (λ l. f zero ∷ l) (listed_more (λ i. f (suc i)) k)

  pub listed_split : (f : ℕ → A) (a b : ℕ) → listed f (a + b) ≡ listed f a ++ listed (λ i. f (a + i)) b
  unfolding listed
  listed_split f zero b = ap (listed f) (zero-add b) ∙ listed_ext f (λ i. f (0 + i)) b (λ i l. ap f (sym (zero-add i)))
  listed_split f (suc a) b =
      ap (listed f) (suc-add a b)
      ∙ ap (λ l. f zero ∷ l) (listed_split (λ i. f (suc i)) a b ∙ ap (λ l. listed (λ i. f (suc i)) a ++ l) (listed_ext (λ i. f (suc (a + i))) (λ i. f (suc a + i)) b (λ i l. ap f (sym (suc-add a i)))))

pub joined_append : (ks ls : List (List ℕ)) → joined (ks ++ ls) ≡ joined ks ++ joined ls
unfolding joined
joined_append [] ls = refl
joined_append (k ∷ ks) ls = ap (λ r. k ++ r) (joined_append ks ls) ∙ sym (append_assoc k (joined ks) (joined ls))

pub joined_more : (ls : List (List ℕ)) (l : List ℕ) → joined (ls ++ l ∷ []) ≡ joined ls ++ l
unfolding joined
joined_more ls l = joined_append ls (l ∷ []) ∙ ap (λ r. joined ls ++ r) (append-nil l)

-- the list at place i of those joined
pub block : (f : ℕ → List ℕ) (w k i : ℕ) (rest : List ℕ) → ((i : ℕ) → length (f i) ≡ w) → i < k → take w (drop (i * w) (joined (listed f k) ++ rest)) ≡ f i
unfolding joined listed
block f w zero i rest h l = absurd (omega arith)
block f w (suc k) zero rest h l =
    let j = joined (listed (λ i. f (suc i)) k) in
    ap (λ n. take w (drop n (f zero ++ j ++ rest))) (zero-mul w) ∙ ap (take w) (append_assoc (f zero) j rest) ∙ take_at (f zero) (j ++ rest) w (h zero)
block f w (suc k) (suc i) rest h l =
    let j = joined (listed (λ i. f (suc i)) k) in
    let e : suc i * w ≡ length (f zero) + i * w = omega (arith, suc-mul i w, h zero) in
    ap₂ (λ n s. take w (drop n s)) e (append_assoc (f zero) j rest) ∙ ap (take w) (drop-append-add (f zero) (j ++ rest) (i * w)) ∙ block (λ i. f (suc i)) w k i rest (λ i. h (suc i)) (le_of_suc-le-suc l)

-- a list cut into parts, and joined again
pub blocks : (r : List ℕ) (w k : ℕ) → joined (listed (λ i. take w (drop (i * w) r)) k) ≡ take (k * w) r
unfolding joined listed
blocks r w zero = ap (λ n. take n r) (sym (zero-mul w))
blocks r w (suc k) =
    ap joined (listed_more (λ i. take w (drop (i * w) r)) k) ∙ joined_more (listed (λ i. take w (drop (i * w) r)) k) (take w (drop (k * w) r))
    ∙ ap (λ s. s ++ take w (drop (k * w) r)) (blocks r w k) ∙ sym (take-add (k * w) w r) ∙ ap (λ n. take n r) (sym (suc-mul k w))
