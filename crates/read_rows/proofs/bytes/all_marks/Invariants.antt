use mathlib.Core.Bool.{not}
use lib.ListN.{get_or}
use Rattle.records.specs.Reading.{is_mark}
use Rattle.read_rows.specs.Parts.Loading.{NoneWhere}
use Rattle.read_rows.proofs.bytes.all_marks.Given as goal

abbrev pub invariant-loop-b : goal.invariant-loop-b
invariant-loop-b l = NoneWhere l.ok (λ k. not (is_mark (get_or l.marks k 0))) l.b-index
