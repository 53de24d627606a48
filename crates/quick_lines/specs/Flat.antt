-- The operation that a flat one is. Assumes nothing.
use Rattle.clifford.specs.declared.Gate.TheVariants.{One as one, Two as two}
use Rattle.clifford.specs.declared.Op.{Op}
use Rattle.clifford.specs.declared.Op.TheVariants.{Gate as apply, Measure as measure}
use Rattle.quick_lines.specs.declared.FlatOp.{FlatOp}
use Rattle.quick_lines.specs.declared.FlatOp.TheVariants as flat

abbrev pub op_of : FlatOp → Op
op_of (flat.One g a) = apply (one g a)
op_of (flat.Two g a b) = apply (two g a b)
op_of (flat.Measure f a) = measure f a
