-- How long the words of an outcome are. Assumes nothing.
use mathlib.Core.Bool.{Bool, true, false}
use mathlib.Core.Path.{◌≡◌, refl}
use Prim.Native.Nat.{◌≤◌}
use native.Mathlib.Omega.{arith}
use lib.ListN.{length}
use Rattle.print_lines.specs.Line.{kind_word, value_word}

pub kind_few : (b : Bool) → length (kind_word b) ≤ 6
kind_few true = omega arith
kind_few false = omega arith

pub value_one : (b : Bool) → length (value_word b) ≡ 1
value_one true = refl
value_one false = refl
