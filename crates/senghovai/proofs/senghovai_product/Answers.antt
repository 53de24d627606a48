use Rattle.senghovai.proofs.Told.{wrote}
use Rattle.senghovai.proofs.senghovai_product.Goals as goal

pub returns : goal.returns
returns c = wrote _ _ c.product.result _ _ _ c.product.ensures c.tell.ensures.0 c.tell.ensures.1
