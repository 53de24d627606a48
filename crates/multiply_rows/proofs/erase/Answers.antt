-- `multiply_rows::erase` meets its contract. Assumes nothing.
use Rattle.multiply_rows.proofs.Columns.{erased_by}
use Rattle.multiply_rows.proofs.erase.Goals as goal

pub returns : goal.returns
returns c = erased_by c.args.w.now c.told-w c.args.j c.requires.0 c.args.g c.requires.1 c.args.own
