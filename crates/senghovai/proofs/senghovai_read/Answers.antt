use Rattle.senghovai.proofs.Told.{told_inside}
use Rattle.senghovai.proofs.senghovai_read.Goals as goal

pub overflow_sub-start : goal.overflow_sub-start
overflow_sub-start c = told_inside _ _ _ c.in-Ok.ensures
