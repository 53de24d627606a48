use Rattle.senghovai.proofs.Told.{ran, not_run}
use Rattle.senghovai.proofs.senghovai_run.Goals as goal

pub returns-in-Ok : goal.returns-in-Ok
returns-in-Ok c = ran _ _ _ _ _ _ (rw c.in-Ok.is at c.run-rest.ensures)

pub returns-in-Err : goal.returns-in-Err
returns-in-Err c = rw (c.number.ensures, c.place.ensures) (not_run _ _ _ _ _ _ (rw c.in-Err.is at c.run-rest.ensures))
