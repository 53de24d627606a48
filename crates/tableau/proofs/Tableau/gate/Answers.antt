-- `Tableau::gate` meets its contract. Assumes nothing.
use mathlib.Core.Path.{refl}
use Rattle.tableau.proofs.Tableau.gate.Goals as goal

pub invariant_of-packed : goal.invariant_of-packed
invariant_of-packed c =
    let p = c.args.self.packed in
    record { few = p.few; holds = c.gate.ensures.holds p.qubits p.few c.requires p.holds }

pub returns : goal.returns
returns c =
    let p = c.args.self.packed in
    record { size = refl; after = c.gate.ensures.rows p.qubits p.few c.requires }
