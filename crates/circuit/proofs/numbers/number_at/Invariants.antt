use Prim.Native.Nat.{◌+◌, ◌-◌}
use Rattle.circuit.proofs.Digits.{Reading}
use Rattle.circuit.proofs.numbers.number_at.Given as goal

abbrev pub invariant-loop-next : goal.invariant-loop-next
invariant-loop-next l = Reading l.s l.at l.value l.next (l.at + 3 - l.next)
