-- `multiply_rows::multiply` keeps what the columns passed have become. Assumes nothing.
use Prim.Native.Nat.{◌+◌, ◌*◌}
use Rattle.limits.specs.Limits.{most_qubits}
use Rattle.packing.specs.View.{letter_at}
use Rattle.groups.specs.Parts.Rows.{row_bit}
use Rattle.multiply_rows.proofs.Loop.{Multiplying}
use Rattle.multiply_rows.proofs.multiply.Given as goal

abbrev pub invariant-loop-j : goal.invariant-loop-j
invariant-loop-j l =
    Multiplying (64 * l.g + l.q) (row_bit l.sets.multiplied) (letter_at l.initial.w (most_qubits + (64 * l.g + l.q))) l.initial.w l.j l.w (row_bit l.counts.hi) (row_bit l.counts.lo)
