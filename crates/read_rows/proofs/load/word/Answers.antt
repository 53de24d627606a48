-- `read_rows::load::word` meets its contract. Assumes nothing.
use Rattle.std.proofs.Common.{arith}
use Rattle.read_rows.proofs.Slices.{word_bits}
use Rattle.read_rows.proofs.load.word.Goals as goal

pub returns : goal.returns
returns c = word_bits c.args.plane.now c.loop-r.bytes c.args.j _ c.fits-plane c.loop-r.invariant.0 (λ k h. c.loop-r.invariant.1 k (omega arith)) c.from_le_bytes.ensures
