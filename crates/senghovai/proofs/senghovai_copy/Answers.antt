use Rattle.senghovai.proofs.Told.{wrote}
use Rattle.senghovai.proofs.senghovai_copy.Goals as goal

pub returns : goal.returns
returns c = wrote _ _ c.copy.result _ _ _ c.copy.ensures c.tell.ensures.0 c.tell.ensures.1
