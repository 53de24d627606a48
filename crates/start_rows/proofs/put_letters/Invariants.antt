-- `start_rows::put_letters` keeps the qubits that have their letters. Assumes nothing.
use Rattle.start_rows.proofs.Starting.{Started}
use Rattle.start_rows.proofs.put_letters.Given as goal

abbrev pub invariant-loop-i : goal.invariant-loop-i
invariant-loop-i l = Started l.i l.w
