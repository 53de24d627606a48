-- `circuit_writer::put_header` meets its contract. Assumes nothing.
use Rattle.lines.proofs.Putting.{puts_then}
use Rattle.circuit_writer.proofs.put_header.Goals as goal

pub returns : goal.returns
returns c = puts_then c.byte.ensures (puts_then c.put_qubit.ensures.puts c.byte-2.ensures)
