-- `Group::not` meets its contract. Assumes nothing.
use mathlib.Core.Path.{◌∙◌}
use Prim.Native.Nat.{◌-◌, ◌/◌, ◌%◌, ◌^◌, ◌<◌}
use native.Mathlib.Nat.{mod-lt, zero-lt-suc}
use borrow.Author.Rules.{rules}
use Rattle.words.proofs.BitLaws.{bit-not}
use Rattle.packing.proofs.Groups.{each_of, word_of, bit-each}
use Rattle.groups.specs.Parts.Rows.{words_of}
use Rattle.groups.proofs.GroupNot.not.Goals as goal

pub returns : goal.returns
returns c s l =
    let g = words_of c.args.self in
    bit-each (λ t. 2 ^ 64 - 1 - g t) s l
    ∙ bit-not 64 (s % 64) (g (s / 64)) (mod-lt s (zero-lt-suc 63))
    (each_of (λ k. g k < 2 ^ 64) (search rules) (search rules) (search rules) (search rules) (s / 64) (word_of s l))
