-- Two answers that the promise of a copy or of a comparison allows are equal, and so are the lent bytes. Assumes nothing.
use mathlib.Core.Path.{◌≡◌, ap}
use mathlib.Core.Bool.{Bool}
use mathlib.Core.List.{List}
use Prim.Native.Nat.{ℕ}
use Rattle.std.specs.Prelude.{Result, Ok, Err}
use Rattle.answers.specs.declared.Refusal.{Refusal}
use Rattle.answers.specs.Refusals.{number_of, place_of, Writes}
use Rattle.answers.proofs.Known.{one_refusal, writes_one}
use Rattle.archive.specs.declared.Unread.{Unread}
use Rattle.archive.specs.declared.Unread.TheVariants.{First, Second}
use Rattle.archive.specs.Copy.{copy_of}
use Rattle.archive.specs.Same.{told_same}

pub one_copy : (s old : List ℕ) (r q : Result ℕ Refusal) (new last : List ℕ) → Writes (copy_of s) old r new → Writes (copy_of s) old q last → (r ≡ q) × (new ≡ last)
one_copy s = writes_one (copy_of s)

pub one_same : (r q : Result Bool Unread) → told_same r ≡ told_same q → r ≡ q
one_same (Ok b) (Ok c) e = let d : b ≡ c = cc in ap Ok d
one_same (Ok b) (Err (First q)) e = cc
one_same (Ok b) (Err (Second q)) e = cc
one_same (Err (First r)) (Ok c) e = cc
one_same (Err (First r)) (Err (First q)) e =
    let n : number_of r ≡ number_of q = cc in
    let p : place_of r ≡ place_of q = cc in
    ap (λ (s : Refusal). Err (First s)) (one_refusal r q n p)
one_same (Err (First r)) (Err (Second q)) e = cc
one_same (Err (Second r)) (Ok c) e = cc
one_same (Err (Second r)) (Err (First q)) e = cc
one_same (Err (Second r)) (Err (Second q)) e =
    let n : number_of r ≡ number_of q = cc in
    let p : place_of r ≡ place_of q = cc in
    ap (λ (s : Refusal). Err (Second s)) (one_refusal r q n p)
