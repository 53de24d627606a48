-- `Group::bitand` meets its contract. Assumes nothing.
use mathlib.Core.Path.{◌∙◌}
use Prim.Native.Nat.{◌/◌, ◌%◌}
use lib.Bits.{bit_and}
use Rattle.words.proofs.BitLaws.{bit-and}
use Rattle.packing.proofs.Groups.{bit-each}
use Rattle.groups.specs.Parts.Rows.{words_of}
use Rattle.groups.proofs.GroupBitAnd.bitand.Goals as goal

pub returns : goal.returns
returns c s l =
    let g = words_of c.args.self in
    let h = words_of c.args.h in
    bit-each (λ t. bit_and (g t) (h t)) s l ∙ bit-and (s % 64) (g (s / 64)) (h (s / 64))
