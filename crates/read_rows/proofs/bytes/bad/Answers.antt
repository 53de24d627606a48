-- `read_rows::bytes::bad` meets its contract. Assumes nothing.
use Rattle.std.proofs.Common.{rules, tests, not, ◌∙◌, length, arith}
use Rattle.std.proofs.lemmas.Iterator.{YieldsList-from_slice}
use Rattle.std.proofs.lemmas.Iterator.Search.{position_from_yields_List}
use Rattle.answers.proofs.First.{lowest_below}
use Rattle.records.specs.Reading.{is_mark}
use Rattle.read_rows.proofs.Places.{bad_in_rows, mark_stops, rest_stops, nothing_stops, looked_at}
use Rattle.read_rows.proofs.bytes.bad.Goals as goal

pub returns-then-all_marks-all_in_rows : goal.returns-then-all_marks-all_in_rows
returns-then-all_marks-all_in_rows c =
    let r = c.args.rows.now in
    looked_at c.args.outcomes.now r.bytes.now r.qubits r.whole _ _ c.all_marks.ensures c.all_in_rows.ensures c.if-all_marks-all_in_rows.true

pub returns-in-Some : goal.returns-in-Some
returns-in-Some c =
    let r = c.args.rows.now in
    let s = c.args.outcomes.now in
    let p = position_from_yields_List (λ b. not (is_mark b)) _ _ c.position.result c.position.ensures.ran (YieldsList-from_slice s cc) (λ x b q k. search (rules, tests)) in
    mark_stops s r.bytes.now r.qubits r.whole _ p _ (search rules)

pub returns-in_err-k : goal.returns-in_err-k
returns-in_err-k c =
    let r = c.args.rows.now in
    let s = c.args.outcomes.now in
    let p = position_from_yields_List (λ b. not (is_mark b)) _ _ c.position.result c.position.ensures.ran (YieldsList-from_slice s cc) (λ x b q k. search (rules, tests)) in
    c.from_residual.ensures ∙ nothing_stops s r.bytes.now r.qubits r.whole _ p (search rules) (search rules)

pub overflow_add-result : goal.overflow_add-result
overflow_add-result c =
    let r = c.args.rows.now in
    omega (arith, lowest_below (bad_in_rows r.bytes.now r.qubits) (length r.bytes.now) c.in_ok-k.k (search rules), r.whole)

pub returns : goal.returns
returns c =
    let r = c.args.rows.now in
    let s = c.args.outcomes.now in
    let p = position_from_yields_List (λ b. not (is_mark b)) _ _ c.position.result c.position.ensures.ran (YieldsList-from_slice s cc) (λ x b q k. search (rules, tests)) in
    rest_stops s r.bytes.now r.qubits r.whole _ p (search rules) _ (search rules)
