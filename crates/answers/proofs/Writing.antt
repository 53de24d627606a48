-- A buffer that is written from its front, byte by byte: what it holds after each store, and after the last. Assumes nothing.
use mathlib.Core.Path.{◌≡◌, sym, ◌∙◌, ap}
use mathlib.Core.List.{List, ◌++◌}
use Prim.Native.Nat.{ℕ, suc, ◌+◌, ◌≤◌, ◌<◌}
use native.Mathlib.Nat.{zero-add}
use native.Mathlib.Numerals.{add-one}
use native.Mathlib.Omega.{arith}
use lib.ListN.{length, get_or, take, drop, set}
use lib.Seq.{paste, paste-suc, length-paste, take-length}
use Rattle.answers.specs.Verdict.{over}

-- the first k bytes of the answer are written over the old ones
abbrev pub written : List ℕ → List ℕ → ℕ → List ℕ
written answer old k = take k answer ++ drop k old

pub written_more : (answer old : List ℕ) (k : ℕ) → k < length answer → k < length old → set (written answer old k) k (get_or answer k 0) ≡ written answer old (k + 1)
written_more answer old k ha ho = rw (add-one k) (law (zero-add k) (paste-suc old 0 answer k 0 (omega arith) ha) ∙ ap (λ (n : ℕ). take (suc k) answer ++ drop n old) (zero-add (suc k)))
  where
    law : (e : 0 + k ≡ k) → set (paste old 0 answer k) (0 + k) (get_or answer k 0) ≡ paste old 0 answer (suc k) → set (written answer old k) k (get_or answer k 0) ≡ paste old 0 answer (suc k)
    law e h = rw e at h

pub length-written : (answer old : List ℕ) (k : ℕ) → k ≤ length answer → k ≤ length old → length (written answer old k) ≡ length old
length-written answer old k ha ho = ap (λ (n : ℕ). length (take k answer ++ drop n old)) (sym (zero-add k)) ∙ length-paste old 0 answer k (omega arith) ha

pub written_all : (answer old : List ℕ) (k : ℕ) → k ≡ length answer → written answer old k ≡ over answer old
written_all answer old k e = rw (e, take-length answer)
