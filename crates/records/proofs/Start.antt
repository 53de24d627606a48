-- The start rows are what a record holds, with any listed outcome characters. Assumes nothing.
use mathlib.Core.Path.{◌≡◌, refl, ap}
use mathlib.Core.Bool.{Bool, true, false, cond}
use Prim.Native.Nat.{ℕ, ◌≤◌}
use native.Mathlib.Omega.{arith}
use lib.Dec.{ltb}
use borrow.Author.Tests.{ltb-true, le-ltb, ne_eqb}
use Rattle.pauli.specs.Letters.{Letter, I, X, Z}
use Rattle.clifford.specs.Tableau.{alone, blank, start}
use Rattle.records.proofs.Held.{Tidy, Clean}

start_tidy : (n : ℕ) (a : Letter) → Tidy n (λ i. cond (ltb i n) (record { minus = false; letters = alone a i }) blank)
start_tidy n a = record {
  letters = λ i j l. go i j l (ltb i n) refl;
  blanks = λ i l. ap (λ b. cond b (record { minus = false; letters = alone a i }) blank) (le-ltb i n l);
}
  where
    go : (i j : ℕ) → n ≤ j → (b : Bool) → ltb i n ≡ b → (cond b (record { minus = false; letters = alone a i }) blank).letters j ≡ I
    go i j l true e = ap (λ b. cond b a I) (ne_eqb j i (λ h. omega (arith, ltb-true i n e)))
    go i j l false e = refl

pub start_clean : (n : ℕ) → Clean n (start n)
start_clean n = record { destabilizers = start_tidy n X; stabilizers = start_tidy n Z }
