-- The numbers of a trailer, as the library reads them from its bytes, and the test of bytes that end in a record. Assumes nothing.
use mathlib.Core.Path.{◌≡◌, refl, sym, ◌∙◌, ap}
use mathlib.Core.Bool.{Bool, ◌&&◌, cond}
use mathlib.Core.List.{List, [], ◌∷◌}
use Prim.Native.Nat.{ℕ, suc, ◌+◌, ◌-◌, ◌≤◌}
use native.Mathlib.Omega.{arith}
use lib.Dec.{eqb, leb}
use lib.ListN.{length, get_or, take, drop, length-drop}
use lib.Seq.{drop-cons}
use borrow.Author.Tests.{le-leb}
use Rattle.std.specs.Int.{w16, w32, from_le_bytes}
use Rattle.std.specs.Prelude.{Some, None}
use Rattle.limits.specs.Limits.{most_operations, most_qubits}
use Rattle.records.specs.Record.{to_rows}
use Rattle.records.specs.Reading.{number_in, first_distance, second_distance, qubits_in}
use Rattle.records.proofs.Numbers.{in_two, in_four}
use Rattle.reading.specs.Answer.{last_of}

-- two bytes at the front of what is left
from : (s : List ℕ) (at : ℕ) → at + 2 ≤ length s → drop at s ≡ get_or s at 0 ∷ get_or s (at + 1) 0 ∷ drop (at + 2) s
from s at h =
    let e : suc at ≡ at + 1 = omega arith in
    let f : suc (suc at) ≡ at + 2 = omega arith in
    drop-cons s at 0 (omega arith)
    ∙ ap (λ (l : List ℕ). get_or s at 0 ∷ l) (drop-cons s (suc at) 0 (omega arith) ∙ (λ i. get_or s (e i) 0 ∷ drop (f i) s))

two : (s : List ℕ) (at : ℕ) → at + 2 ≤ length s → from_le_bytes w16 (get_or s at 0 ∷ get_or s (at + 1) 0 ∷ []) ≡ number_in (take 2 (drop at s))
two s at h = in_two _ refl ∙ ap (λ (l : List ℕ). number_in (take 2 l)) (sym (from s at h))

four : (s : List ℕ) (at : ℕ) → at + 4 ≤ length s → from_le_bytes w32 (get_or s at 0 ∷ get_or s (at + 1) 0 ∷ get_or s (at + 2) 0 ∷ get_or s (at + 2 + 1) 0 ∷ []) ≡ number_in (take 4 (drop at s))
four s at h =
    in_four _ refl ∙ ap (λ (l : List ℕ). number_in (take 4 l)) (sym (from s at (omega arith) ∙ ap (λ (l : List ℕ). get_or s at 0 ∷ get_or s (at + 1) 0 ∷ l) (from s (at + 2) (omega arith))))

-- what the code tests of the distances near and far and of n is whether the bytes end in a record
module _ (s t : List ℕ) (long : 12 ≤ length s) (whole : t ≡ drop (length s - 12) s) (S : get_or t 10 0 ≡ 0x53) (R : get_or t 11 0 ≡ 0x52) (near far n : ℕ)
    (first : near ≡ from_le_bytes w32 (get_or t 0 0 ∷ get_or t 1 0 ∷ get_or t 2 0 ∷ get_or t 3 0 ∷ []))
    (second : far ≡ from_le_bytes w32 (get_or t 4 0 ∷ get_or t 5 0 ∷ get_or t 6 0 ∷ get_or t 7 0 ∷ []))
    (qubits : n ≡ from_le_bytes w16 (get_or t 8 0 ∷ get_or t 9 0 ∷ [])) where
  size : length t ≡ 12
  size = ap length whole ∙ length-drop (length s - 12) s ∙ omega arith

  near_is : near ≡ first_distance s
  near_is = first ∙ four t 0 (omega (arith, size)) ∙ ap (λ (l : List ℕ). number_in (take 4 l)) whole

  far_is : far ≡ second_distance s
  far_is = second ∙ four t 4 (omega (arith, size)) ∙ ap (λ (l : List ℕ). number_in (take 4 (drop 4 l))) whole

  n_is : n ≡ qubits_in s
  n_is = qubits ∙ two t 8 (omega (arith, size)) ∙ ap (λ (l : List ℕ). number_in (take 2 (drop 8 l))) whole

  abbrev tests : Bool
  tests = leb 1 n && leb n most_qubits && eqb near (to_rows n) && leb near far && leb far (near + most_operations) && leb far (length s)

  pub last_tested : last_of s ≡ cond tests (Some (record { start = length s - far; outcomes = far - near; qubits = n })) None
  last_tested = rw (sym near_is, sym far_is, sym n_is, sym whole, S, R, le-leb 12 (length s) long)
