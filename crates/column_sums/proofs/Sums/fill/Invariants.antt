use mathlib.Core.Path.{◌≡◌}
use Prim.Native.Nat.{◌*◌}
use Rattle.column_sums.specs.Parts.Sums.{Summed}
use Rattle.column_sums.proofs.Sums.fill.Given as goal

abbrev pub invariant-loop-j : goal.invariant-loop-j
invariant-loop-j l = (l.self.half ≡ l.initial.self.half) × Summed l.w l.initial.self.half (16 * l.j) l.self.table
