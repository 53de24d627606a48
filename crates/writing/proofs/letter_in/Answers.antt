-- `writing::letter_in` meets its contract. Assumes nothing.
use mathlib.Core.Bool.{Bool}
use mathlib.Core.Path.{◌∙◌, ap₂}
use Prim.Native.Nat.{◌/◌, ◌%◌}
use native.Mathlib.Omega.{arith}
use lib.ListN.{get_or}
use Rattle.pauli.specs.Letters.{letter}
use Rattle.pauli.specs.Texts.{letter_byte}
use Rattle.packing.specs.Parts.Planes.{byte_place}
use Rattle.writing.proofs.Bytes.{has_bit}
use Rattle.writing.proofs.letter_in.Goals as goal

pub returns : goal.returns
returns c =
    let e = c.args in
    let at = byte_place (e.i / 8) e.j in
    c.letter_byte.ensures
    ∙ ap₂ (λ (x z : Bool). letter_byte (letter x z)) (has_bit (get_or e.p.now.x at 0) (e.i % 8) (omega arith)) (has_bit (get_or e.p.now.z at 0) (e.i % 8) (omega arith))
