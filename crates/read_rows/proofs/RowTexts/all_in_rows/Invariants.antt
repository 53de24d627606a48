use Prim.Native.Nat.{◌+◌, ◌*◌, ◌%◌}
use mathlib.Core.Bool.{not}
use lib.ListN.{get_or}
use Rattle.pauli.specs.Texts.{fits_at}
use Rattle.read_rows.specs.Parts.Loading.{NoneWhere}
use Rattle.read_rows.proofs.RowTexts.all_in_rows.Given as goal

abbrev pub invariant-loop-i : goal.invariant-loop-i
invariant-loop-i l = NoneWhere l.ok (λ k. not (fits_at (k % (l.self.qubits + 1)) (get_or l.self.bytes.now k 0))) (l.i * (l.self.qubits + 1))
