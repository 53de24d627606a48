-- `walking::flip` meets its contract. Assumes nothing.
use mathlib.Core.Path.{refl}
use Rattle.clifford.specs.declared.One.TheVariants.{PauliX}
use Rattle.columns.proofs.Gates.{as_given}
use Rattle.walking.proofs.flip.Goals as goal

pub invariant_of-rows : goal.invariant_of-rows
invariant_of-rows c =
    let r = c.args.rows.now in
    record { few = r.few; holds = (as_given PauliX c.args.a _ _ c.one.ensures).holds r.qubits r.few c.requires r.holds }

pub returns-then-applies : goal.returns-then-applies
returns-then-applies c =
    let r = c.args.rows.now in
    (refl, rw c.if-applies.true ((as_given PauliX c.args.a _ _ c.one.ensures).rows r.qubits r.few c.requires))

pub returns-else-applies : goal.returns-else-applies
returns-else-applies c = (refl, rw c.if-applies.false)
