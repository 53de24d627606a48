-- `walking::shoot` meets its contract. Assumes nothing.
use mathlib.Core.Path.{◌∙◌}
use borrow.Author.Rules.{rules}
use Rattle.answers.proofs.First.{lowest_below}
use Rattle.packing.specs.View.{rows_of}
use Rattle.walking.proofs.Shots.{was_fixed, was_random}
use Rattle.walking.proofs.shoot.Goals as goal

pub collapse-requires : goal.collapse-requires
collapse-requires c = (c.requires.0, lowest_below _ c.args.rows.now.qubits c.in-Some.p (rw c.in-Some.is at c.random_row.ensures))

pub returns-in-None : goal.returns-in-None
returns-in-None c =
    let r = c.args.rows.now in
    record {
      same = c.flip.ensures.0;
      is = was_fixed r.qubits c.args.a (rows_of r.qubits r.words) c.args.coins.now c.args.used c.args.reset _ _ (rw c.in-None.is at c.random_row.ensures) c.fixed_value-value.ensures c.flip.ensures.1;
    }

pub returns-in_ok-coin-in-Some : goal.returns-in_ok-coin-in-Some
returns-in_ok-coin-in-Some c =
    let r = c.args.rows.now in
    let f = c.flip-in-Some.ensures in
    record {
      same = f.0 ∙ c.collapse.ensures.0;
      is =
          was_random r.qubits c.args.a (rows_of r.qubits r.words) c.args.coins.now c.args.used c.args.reset c.in-Some.p _ _ _ (rw c.in-Some.is at c.random_row.ensures) (search rules) (search rules) c.collapse.ensures.1
          (rw c.collapse.ensures.0 at f.1);
    }
