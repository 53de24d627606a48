-- `read_rows::bytes::in_row` meets its contract. Assumes nothing.
use Rattle.std.proofs.Common.{rules, tests, not, ◌∙◌}
use Rattle.std.proofs.lemmas.Iterator.{YieldsList-from_slice}
use Rattle.std.proofs.lemmas.Iterator.Search.{position_from_yields_List}
use Rattle.pauli.specs.Texts.{is_letter}
use Rattle.read_rows.proofs.Places.{sign_stops, letter_stops, none_stops}
use Rattle.read_rows.proofs.bytes.in_row.Goals as goal

pub returns-then-not-is_sign : goal.returns-then-not-is_sign
returns-then-not-is_sign c = sign_stops c.args.row.now c.in_ok-sign.sign.now c.in_ok-sign.letters.now (search rules) (search rules)

pub returns-in_err-k : goal.returns-in_err-k
returns-in_err-k c =
    let w = c.in_ok-sign in
    let p = position_from_yields_List (λ b. not (is_letter b)) _ _ c.position.result c.position.ensures.ran (YieldsList-from_slice w.letters.now cc) (λ x b q k. search (rules, tests)) in
    c.from_residual-in_err-k.ensures ∙ none_stops c.args.row.now w.sign.now w.letters.now (search rules) (search rules) _ p (search rules)

pub returns : goal.returns
returns c =
    let w = c.in_ok-sign in
    let p = position_from_yields_List (λ b. not (is_letter b)) _ _ c.position.result c.position.ensures.ran (YieldsList-from_slice w.letters.now cc) (λ x b q k. search (rules, tests)) in
    letter_stops c.args.row.now w.sign.now w.letters.now (search rules) (search rules) _ p _ (search rules)
