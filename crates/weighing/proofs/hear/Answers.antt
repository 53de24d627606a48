-- `weighing::hear` meets its contract. Assumes nothing.
use borrow.Author.Rules.{rules}
use Rattle.packing.specs.View.{rows_of}
use Rattle.walking.specs.Parts.Walk.{following}
use Rattle.weighing.proofs.Hearing.{heard_off, heard_on}
use Rattle.weighing.proofs.hear.Goals as goal

pub returns-then-outcome-value : goal.returns-then-outcome-value
returns-then-outcome-value c =
    let r = c.args.rows.now in
    let o = c.in_ok-outcome.outcome in
    record {
      same = c.shoot.ensures.same;
      is =
          heard_off r.qubits (following c.args.reset) c.args.a (rows_of r.qubits r.words) c.args.stated.now c.args.at (search rules) o.random o.value _ _ (search rules) c.in_ok-outcome.ensures.is c.if-outcome-value.true;
    }

pub returns : goal.returns
returns c =
    let r = c.args.rows.now in
    let o = c.in_ok-outcome.outcome in
    record {
      same = c.shoot.ensures.same;
      is =
          heard_on r.qubits (following c.args.reset) c.args.a (rows_of r.qubits r.words) c.args.stated.now c.args.at (search rules) o.random o.value _ _ (search rules)
          (rw c.shoot.ensures.same at c.shoot.new.rows.holds) c.in_ok-outcome.ensures.is c.if-outcome-value.false;
    }
