-- `Group::bitxor` meets its contract. Assumes nothing.
use mathlib.Core.Path.{◌∙◌}
use Prim.Native.Nat.{◌/◌, ◌%◌}
use lib.Bits.{bit_xor}
use Rattle.words.proofs.BitLaws.{bit-xor}
use Rattle.packing.proofs.Groups.{bit-each}
use Rattle.groups.specs.Parts.Rows.{words_of}
use Rattle.groups.proofs.GroupBitXor.bitxor.Goals as goal

pub returns : goal.returns
returns c s l =
    let g = words_of c.args.self in
    let h = words_of c.args.h in
    bit-each (λ t. bit_xor (g t) (h t)) s l ∙ bit-xor (s % 64) (g (s / 64)) (h (s / 64))
