-- `lines::Lines::number` meets its contract. Assumes nothing.
use mathlib.Core.Path.{ap}
use native.Mathlib.Omega.{arith}
use Rattle.lines.proofs.Digits.{decimal_last, decimal_more, decimal_fewer}
use Rattle.lines.proofs.Putting.{puts_as, puts_then}
use Rattle.lines.proofs.Lines.+number.Goals as goal
use Rattle.lines.proofs.Lines.+number.Goals.{then-v-ge10, else-v-ge10}

pub byte-requires : goal.byte-requires
byte-requires t c =
    elim c.if-v-ge10.branch [
      | then-v-ge10 w ↦ rw w.self-is (omega (arith, w.number.ensures.puts.next_is, decimal_fewer c.args.v (omega arith) (omega arith)))
      | else-v-ge10 w ↦ rw w.self-is (omega arith)
    ]

pub returns-clause-puts : goal.returns-clause-puts
returns-clause-puts t c =
    elim c.if-v-ge10.branch [
      | then-v-ge10 w ↦ puts_as (decimal_more c.args.v (omega arith) (omega arith)) (puts_then w.number.ensures.puts (rw w.self-is at c.byte.ensures))
      | else-v-ge10 w ↦ puts_as (decimal_last c.args.v (omega arith)) (rw w.self-is at c.byte.ensures)
    ]

pub returns-clause-few : goal.returns-clause-few
returns-clause-few t c =
    elim c.if-v-ge10.branch [
      | then-v-ge10 w ↦ omega (arith, ap (λ l. l.at) w.self-is, c.byte.ensures.next_is, w.number.ensures.puts.next_is, decimal_fewer c.args.v (omega arith) (omega arith))
      | else-v-ge10 w ↦ omega (arith, ap (λ l. l.at) w.self-is, c.byte.ensures.next_is)
    ]
