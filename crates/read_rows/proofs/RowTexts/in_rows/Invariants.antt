use mathlib.Core.Path.{◌≡◌}
use mathlib.Core.Bool.{not, false}
use Prim.Native.Nat.{ℕ, ◌+◌, ◌*◌, ◌%◌, ◌<◌}
use lib.ListN.{get_or}
use Rattle.pauli.specs.Texts.{fits_at}
use Rattle.read_rows.proofs.RowTexts.in_rows.Given as goal

abbrev pub invariant-loop-i : goal.invariant-loop-i
invariant-loop-i l = (k : ℕ) → k < l.i * (l.self.qubits + 1) → not (fits_at (k % (l.self.qubits + 1)) (get_or l.self.bytes.now k 0)) ≡ false
