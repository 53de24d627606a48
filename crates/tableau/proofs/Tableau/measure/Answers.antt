-- `Tableau::measure` meets its contract. Assumes nothing.
use mathlib.Core.Path.{refl, ap, ◌∙◌}
use Rattle.answers.proofs.First.{lowest_below}
use Rattle.packing.specs.declared.Packed.{Packed}
use Rattle.packing.specs.View.{rows_of}
use Rattle.tableau.proofs.Measuring.{same_rows, random_answer, fixed_answer}
use Rattle.tableau.proofs.Tableau.measure.Goals as goal
use Rattle.tableau.proofs.Tableau.measure.Goals.{in-Some, in-None}

pub collapse-requires : goal.collapse-requires
collapse-requires c = (c.requires, lowest_below _ _ _ c.in-Some.ensures)

pub returns : goal.returns
returns c =
    let p = c.args.self.packed in
    let q = c.match-random_row.packed in
    let t = rows_of p.qubits p.words in
    let u = rows_of q.qubits q.words in
    elim c.match-random_row.branch [
      | in-Some w ↦ (
        ap (λ (r : Packed). r.qubits) w.packed-is ∙ w.collapse.ensures.0,
        random_answer p.qubits t u c.args.a c.args.coin _ w.in-Some.p w.in-Some.ensures
            (same_rows q w.collapse.new.rows p.qubits w.packed-is w.collapse.ensures.0 ∙ w.collapse.ensures.1) w.outcome-is,
      )
      | in-None w ↦ (
        ap (λ (r : Packed). r.qubits) w.packed-is,
        fixed_answer p.qubits t u c.args.a c.args.coin _ _ w.in-None.ensures (same_rows q p p.qubits w.packed-is refl) w.outcome-is w.fixed_value.ensures,
      )
    ]
