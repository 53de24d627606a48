-- A whole number and the double that belongs to it: document 02, request h, "one answer carries both". Assumes nothing.
use Rattle.std.specs.Prelude.{◌≡◌, ℕ}
use Rattle.half.specs.declared.Likelihood.{Likelihood}
use Rattle.half.specs.Half.{Halved}

-- one answer carries both: the whole number k, and the double that belongs to it
pub record Tied (k : ℕ) (l : Likelihood) : Type 0 where
  pub same : l.k ≡ k
  pub halved : Halved l.k l.probability
