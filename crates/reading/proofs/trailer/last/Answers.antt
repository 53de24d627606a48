-- `reading::trailer::last` meets its contract. Assumes nothing.
use native.Mathlib.Omega.{arith}
use borrow.Author.Rules.{rules}
use Rattle.std.proofs.lemmas.Bool.Decides.{nat_tests}
use Rattle.reading.proofs.Numbers.{last_tested}
use Rattle.reading.proofs.trailer.last.Goals as goal

pub returns-in_err-outcomes : goal.returns-in_err-outcomes
returns-in_err-outcomes c =
    let w = c.in_ok-r0.ensures.cases in
    let t = last_tested c.args.bytes.now _ w.0 w.1.same (search rules) (search rules) _ _ _ c.from_le_bytes-to_rows.ensures c.from_le_bytes-to_start.ensures c.from_le_bytes.ensures in
    grind (arith, nat_tests)

pub returns-in_err-start : goal.returns-in_err-start
returns-in_err-start c =
    let w = c.in_ok-r0.ensures.cases in
    let t = last_tested c.args.bytes.now _ w.0 w.1.same (search rules) (search rules) _ _ _ c.from_le_bytes-to_rows.ensures c.from_le_bytes-to_start.ensures c.from_le_bytes.ensures in
    grind (arith, nat_tests)

pub returns-then-to_rows : goal.returns-then-to_rows
returns-then-to_rows c =
    let w = c.in_ok-r0.ensures.cases in
    let t = last_tested c.args.bytes.now _ w.0 w.1.same (search rules) (search rules) _ _ _ c.from_le_bytes-to_rows.ensures c.from_le_bytes-to_start.ensures c.from_le_bytes.ensures in
    grind (arith, nat_tests)

pub returns-else-qubits-ge1 : goal.returns-else-qubits-ge1
returns-else-qubits-ge1 c =
    let w = c.in_ok-r0.ensures.cases in
    let t = last_tested c.args.bytes.now _ w.0 w.1.same (search rules) (search rules) _ _ _ c.from_le_bytes-to_rows.ensures c.from_le_bytes-to_start.ensures c.from_le_bytes.ensures in
    grind (arith, nat_tests)
