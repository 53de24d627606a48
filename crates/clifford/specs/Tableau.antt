-- The rows of a tableau, those it starts from, what a gate does to all of them, and when they are properly paired: document 01,
-- "Rows and their products". Assumes nothing.
use Rattle.std.specs.Prelude.{false, cond, ◌≡◌, ℕ, ◌-◌, ◌<◌, eqb, ltb}
use Rattle.pauli.specs.Letters.{Letter, I, X, Z}
use Rattle.pauli.specs.Rows.{Letters, Row, anticommute}
use Rattle.clifford.specs.declared.Gate.{Gate}
use Rattle.clifford.specs.Gates.{gate}

-- the destabilizers and the stabilizers, n of each: those of one number are partners
pub record Rows : Type 0 where
  pub destabilizer : ℕ → Row
  pub stabilizer : ℕ → Row

-- row i of the 2n rows: destabilizers 0 to n-1, stabilizers n to 2n-1; row i and row n + i are partners
abbrev pub numbered : ℕ → Rows → ℕ → Row
numbered n t i = cond (ltb i n) (t.destabilizer i) (t.stabilizer (i - n))

-- the letter l on qubit a alone
abbrev pub alone : Letter → ℕ → Letters
alone l a = λ j. cond (eqb j a) l I

-- no letter but I, with a plus: what stands from number n on, where no row is
abbrev pub blank : Row
blank = record { minus = false; letters = λ j. I }

-- at the start destabilizer i is + with X on qubit i, and stabilizer i is + with Z on qubit i
abbrev pub start : ℕ → Rows
start n = record {
  destabilizer = λ i. cond (ltb i n) (record { minus = false; letters = alone X i }) blank;
  stabilizer = λ i. cond (ltb i n) (record { minus = false; letters = alone Z i }) blank;
}

-- each operation takes a whole tableau and gives back a whole tableau
abbrev pub gated : Gate → Rows → Rows
gated g t = record { destabilizer = λ i. gate g (t.destabilizer i); stabilizer = λ i. gate g (t.stabilizer i) }

-- properly paired: partners anticommute, and every other two rows commute
pub record Paired (n : ℕ) (t : Rows) : Type 0 where
  pub destabilizers : (i j : ℕ) → i < n → j < n → anticommute n (t.destabilizer i).letters (t.destabilizer j).letters ≡ false
  pub stabilizers : (i j : ℕ) → i < n → j < n → anticommute n (t.stabilizer i).letters (t.stabilizer j).letters ≡ false
  pub partners : (i j : ℕ) → i < n → j < n → anticommute n (t.destabilizer i).letters (t.stabilizer j).letters ≡ eqb i j
