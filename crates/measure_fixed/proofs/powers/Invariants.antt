-- `measure_fixed::powers` keeps what the columns passed add. Assumes nothing.
use Rattle.measure_fixed.specs.Parts.Column.{pair}
use Rattle.measure_fixed.proofs.Passing.{Passing}
use Rattle.measure_fixed.proofs.powers.Given as goal

abbrev pub invariant-loop-j : goal.invariant-loop-j
invariant-loop-j l = Passing l.w (pair l.sel l.tel) l.twos (pair l.h0 l.h1) l.columns l.j
