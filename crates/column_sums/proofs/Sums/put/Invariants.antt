use mathlib.Core.Path.{◌≡◌}
use Prim.Native.Nat.{◌+◌, ◌*◌}
use Rattle.column_sums.specs.Parts.Sums.{Summed}
use Rattle.column_sums.proofs.Sums.put.Given as goal

abbrev pub invariant-loop-e : goal.invariant-loop-e
invariant-loop-e l = (l.self.half ≡ l.initial.self.half) × Summed l.w l.initial.self.half (16 * l.j + 4 * l.e) l.self.table
