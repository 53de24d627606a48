use Rattle.print_lines.proofs.Rows.{RowsPut}
use Rattle.print_lines.proofs.put_rows.Given as goal

abbrev pub invariant-loop-i : goal.invariant-loop-i
invariant-loop-i l = RowsPut l.width l.rows l.i l.initial.lines l.lines
