use Prim.Native.Nat.{◌+◌, ◌-◌}
use lib.ListN.{length, drop}
use Rattle.limits.specs.Limits.{most_operations}
use Rattle.answers.specs.Verdict.{accepted, then}
use Rattle.circuit.specs.Text.{operations}
use Rattle.checking.specs.Parts.Promises.{added}
use Rattle.checking.proofs.Counting.{Counting}
use Rattle.checking.proofs.scan_lines.Given as goal

abbrev pub invariant-loop-at : goal.invariant-loop-at
invariant-loop-at l =
    Counting l.n l.s (then (operations l.n (most_operations - l.done) (l.done + 2) (drop l.from l.s)) (λ ops. accepted (added l.done l.seen ops))) l.at l.operations l.measured

abbrev pub decreases-loop-at : goal.decreases-loop-at
decreases-loop-at l = length l.s - l.at
