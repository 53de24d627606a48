use mathlib.Core.Path.{◌∙◌}
use Prim.Native.Nat.{◌%◌}
use Rattle.words.proofs.BitLaws.{bit-zero}
use Rattle.column_sums.proofs.Sums.picked.Goals as goal

pub loop-j-init : goal.loop-j-init
loop-j-init c = λ s l. c.all-sum.ensures s l ∙ bit-zero (s % 64)
