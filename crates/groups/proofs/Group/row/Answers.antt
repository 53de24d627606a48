-- `Group::row` meets its contract. Assumes nothing.
use Rattle.groups.proofs.Single.{single}
use Rattle.groups.proofs.Group.row.Goals as goal

pub returns : goal.returns
returns c =
    single c.args.t _ _ _ _ c.select_unpredictable.ensures c.select_unpredictable-2.ensures c.select_unpredictable-3.ensures c.select_unpredictable-4.ensures
