-- The sum of f 0, f 1, .. f (n - 1), for any addition: how a row's letters are put together over any number of qubits. Assumes nothing.
use Rattle.std.specs.Prelude.{ℕ, zero, suc}

module _ {A : Type 0} (o : A) (plus : A → A → A) where
  abbrev pub sum : (ℕ → A) → ℕ → A
  sum f zero = o
  sum f (suc n) = plus (sum f n) (f n)
