use Prim.Native.Nat.{◌+◌}
use mathlib.Core.Bool.{not}
use lib.ListN.{get_or}
use Rattle.pauli.specs.Texts.{fits_at}
use Rattle.read_rows.specs.Parts.Loading.{NoneWhere}
use Rattle.read_rows.proofs.bytes.all_in_row.Given as goal

abbrev pub invariant-loop-b : goal.invariant-loop-b
invariant-loop-b l = NoneWhere l.ok (λ k. not (fits_at k (get_or l.row k 0))) (l.b-index + 1)
