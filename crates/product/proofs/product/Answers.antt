use Rattle.std.proofs.Common.{sym, arith, rules, eqb, ◌%◌, length}
use Rattle.answers.proofs.First.{lowest_below}
use Rattle.answers.proofs.Answered.{refuses, has_no_room, has_written}
use Rattle.product.specs.Parts.Table.{letter_text}
use Rattle.product.proofs.Laws.{text_length}
use Rattle.product.proofs.Answers.{first_10, second_10, odd_12, even_product}
use Rattle.product.proofs.product.Goals as goal

pub returns-in-Some : goal.returns-in-Some
returns-in-Some c = refuses _ _ _ (first_10 c.args.first.now c.args.second.now (search rules) _ c.in-Some.ensures)

pub overflow_add-result : goal.overflow_add-result
overflow_add-result c = omega (arith, lowest_below _ (length c.args.second.now) _ c.in-Some-first_unlisted.ensures)

pub returns-in-Some-first_unlisted : goal.returns-in-Some-first_unlisted
returns-in-Some-first_unlisted c = refuses _ _ _ (second_10 c.args.first.now c.args.second.now (search rules) _ c.in_default.ensures c.in-Some-first_unlisted.ensures)

pub returns-then-sum-eq1 : goal.returns-then-sum-eq1
returns-then-sum-eq1 c =
    refuses _ _ _ (odd_12 c.args.first.now c.args.second.now (search rules) c.in_default.ensures c.in_default-first_unlisted.ensures _ c.power_sum-sum.ensures c.if-sum-eq1.true)

pub returns-then-out-size : goal.returns-then-out-size
returns-then-out-size c =
    let k = text_length c.args.first.now c.args.second.now (eqb (c.power_sum-sum.result % 4) 2) (omega arith) in
    has_no_room _ _ _
    (even_product c.args.first.now c.args.second.now (search rules) c.in_default.ensures c.in_default-first_unlisted.ensures _ c.power_sum-sum.ensures c.if-sum-eq1.false)
    (omega (arith, k))

pub returns : goal.returns
returns c =
    let k = text_length c.args.first.now c.args.second.now (eqb (c.power_sum-sum.result % 4) 2) (omega arith) in
    has_written _ _ (letter_text c.args.first.now c.args.second.now (eqb (c.power_sum-sum.result % 4) 2)) _ _
    (even_product c.args.first.now c.args.second.now (search rules) c.in_default.ensures c.in_default-first_unlisted.ensures _ c.power_sum-sum.ensures c.if-sum-eq1.false)
    (omega (arith, k)) (sym k) c.write.ensures
