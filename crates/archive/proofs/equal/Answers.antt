-- `archive::equal` meets its contract. Assumes nothing.
use Rattle.std.proofs.Common.{refl, sym, ◌∙◌, ◌*◌, arith, rules, tests}
use Rattle.std.proofs.lemmas.Iterator.{YieldsList-from_range}
use Rattle.std.proofs.lemmas.Iterator.Search.{all_from_yields_List}
use Rattle.archive.proofs.Groups.{group_equal, differ, signs_decide}
use Rattle.archive.proofs.equal.Goals as goal

pub returns-then-all : goal.returns-then-all
returns-then-all c =
    let e = c.args in
    let a = all_from_yields_List (group_equal e.v.now e.w.now) _ _ c.all.result c.all.ensures.ran (YieldsList-from_range 0 (2 * e.n) (2 * e.n) refl (omega arith)) (λ x b q k. search (rules, tests)) in
    c.same_group.ensures ∙ signs_decide e.n e.v.now e.w.now c.requires.0 c.requires.1 c.requires.2 (sym a ∙ c.if-all.true)

pub returns-else-all : goal.returns-else-all
returns-else-all c =
    let e = c.args in
    let a = all_from_yields_List (group_equal e.v.now e.w.now) _ _ c.all.result c.all.ensures.ran (YieldsList-from_range 0 (2 * e.n) (2 * e.n) refl (omega arith)) (λ x b q k. search (rules, tests)) in
    c.if-all.false ∙ differ e.n e.v.now e.w.now c.requires.0 c.requires.1 c.requires.2 (sym a ∙ c.if-all.false)
