-- `measure_fixed::lone_sign` meets its contract. Assumes nothing.
use lib.Count.{count_trailing_zeros}
use Rattle.measure_fixed.proofs.Single.{lone, bit_test}
use Rattle.measure_fixed.proofs.lone_sign.Goals as goal

pub returns-then-sel-p-eq1 : goal.returns-then-sel-p-eq1
returns-then-sel-p-eq1 c = record {
  row = count_trailing_zeros 64 c.args.sel;
  below = c.if-p-lt64.true;
  alone = λ k l. lone c.args.sel k c.if-sel-p-eq1.true;
  sign = bit_test (count_trailing_zeros 64 c.args.sel) c.args.signs;
}
