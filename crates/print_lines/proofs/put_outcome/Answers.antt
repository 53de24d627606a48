-- `print_lines::put_outcome` meets its contract. Assumes nothing.
use mathlib.Core.List.{[], ◌∷◌}
use mathlib.Core.Path.{◌≡◌}
use Rattle.lines.proofs.Putting.{puts_then, puts_as}
use Rattle.print_lines.specs.Line.{kind_word, value_word}
use Rattle.print_lines.proofs.put_outcome.Goals as goal
use Rattle.print_lines.proofs.put_outcome.Goals.{then-outcome, else-outcome, then-outcome-2, else-outcome-2}

pub returns : goal.returns
returns c =
    let kind : kind_word c.args.outcome.random ≡ c.if-outcome.text.now =
    elim c.if-outcome.branch [ then-outcome w ↦ rw w.if-outcome.true (cc) | else-outcome w ↦ rw w.if-outcome.false (cc) ] in
    let value : value_word c.args.outcome.value ≡ c.if-outcome-2.byte ∷ [] =
    elim c.if-outcome-2.branch [ then-outcome-2 w ↦ rw w.if-outcome-2.true (cc) | else-outcome-2 w ↦ rw w.if-outcome-2.false (cc) ] in
    puts_then c.number.ensures.puts
    (puts_then c.byte.ensures (puts_then c.number-2.ensures.puts (puts_then c.byte-2.ensures (puts_then (puts_as kind c.text.ensures) (puts_then c.byte-3.ensures (puts_then (puts_as value c.byte-4.ensures) c.byte-5.ensures))))))
