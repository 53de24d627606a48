-- `print_lines::put_refusal` meets its contract. Assumes nothing.
use Rattle.lines.proofs.Putting.{puts_then}
use Rattle.print_lines.proofs.put_refusal.Goals as goal

pub returns : goal.returns
returns c =
    puts_then c.text.ensures
    (puts_then (rw c.number.ensures at c.number-2.ensures.puts) (puts_then c.byte.ensures (puts_then (rw c.place.ensures at c.number-3.ensures.puts) c.byte-2.ensures)))
