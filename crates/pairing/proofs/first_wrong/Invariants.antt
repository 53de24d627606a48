-- `pairing::first_wrong` meets its contract: the rows passed are right. Assumes nothing.
use Prim.Native.Nat.{ℕ, ◌<◌}
use Rattle.pairing.specs.Parts.Partners.{Right}
use Rattle.pairing.proofs.first_wrong.Given as goal

abbrev pub invariant-loop-i : goal.invariant-loop-i
invariant-loop-i l = (k : ℕ) → k < l.i → Right l.found l.n k
