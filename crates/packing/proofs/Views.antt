-- When a row of the words is a given row: its sign and the first n letters decide. Assumes nothing.
use mathlib.Core.Path.{◌≡◌, refl, ap}
use mathlib.Core.Bool.{Bool, true, false, cond}
use mathlib.Core.List.{List}
use Prim.Native.Nat.{ℕ, ◌+◌, ◌≤◌, ◌<◌}
use lib.Dec.{ltb}
use native.Mathlib.Omega.{arith}
use Rattle.std.proofs.lemmas.Bool.Decides.{nat_tests}
use borrow.Author.Tests.{lt-ltb, le-ltb}
use Rattle.pauli.specs.Letters.{Letter, I, x}
use Rattle.pauli.specs.Rows.{Letters, Row}
use Rattle.clifford.specs.Tableau.{blank}
use Rattle.clifford.specs.Measurement.{has_x}
use Rattle.packing.specs.View.{letter_at, row_at, rows_from}

pub cond_same : {A : Type 0} (b : Bool) (a : A) → cond b a a ≡ a
cond_same true a = refl
cond_same false a = refl

pub row_eq : (r s : Row) → r.minus ≡ s.minus → ((j : ℕ) → r.letters j ≡ s.letters j) → r ≡ s
row_eq r s e f = λ i. record { minus = e i; letters = λ j. f j i }

-- the first n letters, and I from n on
abbrev pub guard : ℕ → Letters → Letters
guard n f = λ j. cond (ltb j n) (f j) I

pub guard_in : (n : ℕ) (f : Letters) (j : ℕ) → j < n → guard n f j ≡ f j
guard_in n f j l = rw (lt-ltb j n l)

pub guard_out : (n : ℕ) (f : Letters) (j : ℕ) → n ≤ j → guard n f j ≡ I
guard_out n f j l = rw (le-ltb j n l)

-- a letter is what it should be if it is so below n, and I is right from n on
pub guarded : (n : ℕ) (f : Letters) (j : ℕ) (l : Letter) → (j < n → f j ≡ l) → (n ≤ j → l ≡ I) → guard n f j ≡ l
guarded n f j l below above = grind (arith, nat_tests)

pub rows_in : (n o : ℕ) (w : List ℕ) (i : ℕ) → i < n → rows_from n o w i ≡ row_at n w (o + i)
unfolding rows_from
rows_in n o w i l = rw (lt-ltb i n l)

pub rows_out : (n o : ℕ) (w : List ℕ) (i : ℕ) → n ≤ i → rows_from n o w i ≡ blank
unfolding rows_from
rows_out n o w i l = rw (le-ltb i n l)

-- all n rows are what they should be if each row is, and blank is right from n on
pub all_rows : (n o : ℕ) (w : List ℕ) (f : ℕ → Row) → ((i : ℕ) → i < n → row_at n w (o + i) ≡ f i) → ((i : ℕ) → n ≤ i → f i ≡ blank) → (i : ℕ) → rows_from n o w i ≡ f i
all_rows n o w f below above i = grind (arith, nat_tests, rows_in n o w i, rows_out n o w i, below i, above i)

-- the x bit of a row tells whether it has X or Y
pub x_at : (n : ℕ) (w : List ℕ) (s a : ℕ) → a < n → has_x a (row_at n w s) ≡ x (letter_at w s a)
unfolding row_at
x_at n w s a l = ap x (guard_in n (letter_at w s) a l)
