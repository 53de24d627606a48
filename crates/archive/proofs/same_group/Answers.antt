-- `archive::same_group` meets its contract. Assumes nothing.
use Rattle.std.proofs.Common.{rules}
use mathlib.Core.Bool.{◌&&◌}
use mathlib.Core.Path.{◌∙◌, ap₂}
use Rattle.archive.proofs.Groups.{words_decide, group_words}
use Rattle.archive.proofs.same_group.Goals as goal

pub returns : goal.returns
returns c =
    let e = c.args in
    ap₂ ◌&&◌ (words_decide _ _ (search rules) (search rules)) (words_decide _ _ (search rules) (search rules)) ∙ group_words e.v.now e.w.now e.o
