-- What each operation makes of a tableau: document 01, "The operations". Assumes nothing.
use Rattle.std.specs.Prelude.{Bool, ◌≡◌, ℕ, Option, None, Some}
use Rattle.clifford.specs.Tableau.{Rows}
use Rattle.clifford.specs.Measurement.{random_row, Answer, random_answer, fixed_answer}
use Rattle.tableau.specs.declared.Tableau.{Tableau}
use Rattle.tableau.specs.declared.Measured.{Measured}
use Rattle.tableau.specs.View.{rows}

-- the tableau r has n qubits and these rows
pub record Becomes (n : ℕ) (t : Rows) (r : Tableau) : Type 0 where
  pub size : r.packed.qubits ≡ n
  pub after : rows r ≡ t

-- random where row p is found, and fixed otherwise
abbrev pub answer_at : ℕ → ℕ → Bool → Rows → Option ℕ → Answer
answer_at n a coin t (Some p) = random_answer n a p coin t
answer_at n a coin t None = fixed_answer n a t

-- the measurement of qubit a of n
abbrev pub measured : ℕ → ℕ → Bool → Rows → Answer
measured n a coin t = answer_at n a coin t (random_row n a t)

-- what the code answers
abbrev pub answer : Measured → Answer
answer r = record { after = rows r.tableau; outcome = r.outcome }
