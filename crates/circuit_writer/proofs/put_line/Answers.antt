-- `circuit_writer::put_line` meets its contract. Assumes nothing.
use Rattle.lines.proofs.Putting.{puts_then}
use Rattle.circuit_writer.proofs.put_line.Goals as goal

pub returns : goal.returns
returns c = puts_then (puts_then c.put_name.ensures.puts c.put_qubits.ensures.puts) c.byte.ensures
