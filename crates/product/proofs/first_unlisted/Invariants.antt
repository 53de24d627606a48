use Rattle.std.proofs.Common.{◌≡◌, ℕ, ◌<◌, true, get_or}
use Rattle.pauli.specs.Texts.{fits_at}
use Rattle.product.proofs.first_unlisted.Given as goal

abbrev pub invariant-loop-k : goal.invariant-loop-k
invariant-loop-k l = (i : ℕ) → i < l.k → fits_at i (get_or l.s i 0) ≡ true
