use native.Mathlib.Omega.{arith}
use Rattle.writing.proofs.Bytes.{filling_all}
use Rattle.writing.proofs.put_bytes.Goals as goal

pub returns : goal.returns
returns c = filling_all _ _ _ _ c.loop-r.r (omega arith) c.loop-r.invariant
