-- `reading::find` meets its contract. Assumes nothing.
use Rattle.std.proofs.Common.{sym, rules}
use Rattle.reading.proofs.Answers.{finds_none, stands, bad_byte, not_paired, accepts}
use Rattle.reading.proofs.find.Goals as goal

pub returns-in_err-last : goal.returns-in_err-last
returns-in_err-last c = finds_none _ _ _ (search rules) (search rules)

pub returns-in-Some : goal.returns-in-Some
returns-in-Some c =
    let s = c.args.bytes.now in
    let st = stands s c.in_ok-last.last (search rules) in
    record { answer = sym (bad_byte s c.in_ok-last.last st c.in-Some.place c.in-Some.ensures); besides = tt }

pub returns-in-Some-unpaired : goal.returns-in-Some-unpaired
returns-in-Some-unpaired c =
    let s = c.args.bytes.now in
    let st = stands s c.in_ok-last.last (search rules) in
    record { answer = sym (not_paired s c.in_ok-last.last st c.in_default.ensures _ c.load.ensures c.in-Some-unpaired.row c.in-Some-unpaired.ensures); besides = tt }

pub returns : goal.returns
returns c =
    let s = c.args.bytes.now in
    let st = stands s c.in_ok-last.last (search rules) in
    record { answer = accepts s c.in_ok-last.last st c.in_default.ensures _ c.load.ensures c.in_default-unpaired.ensures; besides = (st.within, c.load.ensures.only) }
