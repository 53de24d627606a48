-- What an operation by value answers, of what the functions on packed rows promise. Assumes nothing.
use mathlib.Core.Path.{◌≡◌, ap, ◌∙◌}
use mathlib.Core.Bool.{Bool, true, false}
use Rattle.std.specs.Prelude.{None, Some}
use Prim.Native.Nat.{ℕ}
use Rattle.clifford.specs.Tableau.{Rows}
use Rattle.clifford.specs.Measurement.{random_row, collapsed, fixed_value, Answer}
use Rattle.clifford.specs.declared.Outcome.{Outcome}
use Rattle.packing.specs.declared.Packed.{Packed}
use Rattle.packing.specs.View.{rows_of}
use Rattle.tableau.specs.Operations.{answer_at, measured}

-- packed rows that are those of r, which are of n qubits
pub same_rows : (q r : Packed) (n : ℕ) → q ≡ r → r.qubits ≡ n → rows_of q.qubits q.words ≡ rows_of n r.words
same_rows q r n e f = ap (λ (p : Packed). rows_of p.qubits p.words) e ∙ ap (λ (m : ℕ). rows_of m r.words) f

module _ (n : ℕ) (t u : Rows) (a : ℕ) (coin : Bool) (o : Outcome) where
  abbrev told : Answer
  told = record { after = u; outcome = o }

  pub random_answer : (p : ℕ) → Some p ≡ random_row n a t → u ≡ collapsed n a p coin t → o ≡ record { random = true; value = coin } → told ≡ measured n a coin t
  random_answer p e after outcome = (λ i. record { after = after i; outcome = outcome i }) ∙ ap (answer_at n a coin t) e

  pub fixed_answer : (v : Bool) → None ≡ random_row n a t → u ≡ t → o ≡ record { random = false; value = v } → v ≡ fixed_value n a t → told ≡ measured n a coin t
  fixed_answer v e after outcome f =
      (λ i. record { after = after i; outcome = outcome i }) ∙ ap (λ (b : Bool). record { after = t; outcome = record { random = false; value = b } }) f ∙ ap (answer_at n a coin t) e
