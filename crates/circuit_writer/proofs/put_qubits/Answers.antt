-- `circuit_writer::put_qubits` meets its contract. Assumes nothing.
use Rattle.lines.proofs.Putting.{puts_then}
use Rattle.circuit_writer.proofs.put_qubits.Goals as goal

pub returns-in-Gate-Two-clause-puts : goal.returns-in-Gate-Two-clause-puts
returns-in-Gate-Two-clause-puts c =
    let two = rw c.in-Gate-Two.is at c.in-Gate-Two.field-0-is in
    rw (c.in-Gate-Two.is, two) (puts_then c.put_qubit.ensures.puts c.put_qubit-in-Gate-Two.ensures.puts)
