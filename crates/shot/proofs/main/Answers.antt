-- `shot::main` is safe. Assumes nothing.
use borrow.Author.Rules.{rules}
use Rattle.print.proofs.Fits.{shot_answers}
use Rattle.shot.proofs.main.Goals as goal

pub unwrap-size-requires : goal.unwrap-size-requires
unwrap-size-requires c = rw (shot_answers _ _ _ _ (search rules) c.shot.ensures)
