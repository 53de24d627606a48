-- `half::Likelihood::bits` meets its contract: the double is no NaN, so its bits are defined, and the promise that comes with it says which they are. Assumes nothing.
use Rattle.half.proofs.Laws.{is_number}
use Rattle.half.proofs.Likelihood.bits.Goals as goal

pub float_to_bits-result : goal.float_to_bits-result
float_to_bits-result c = is_number c.args.self.k c.args.self.probability c.args.self.halved.value
