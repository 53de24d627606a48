-- `probability::probability` meets its contract. Assumes nothing.
use Rattle.std.proofs.lemmas.Result.{err_from_is_err_and}
use Rattle.probability.proofs.Telling.{tells_refusal}
use Rattle.probability.proofs.FromWalk.{not_read}
use Rattle.probability.proofs.probability.Goals as goal

pub returns-in_err-heading : goal.returns-in_err-heading
returns-in_err-heading c =
    let p = err_from_is_err_and c.from_residual.result c.from_residual.ensures.1 in
    rw (p.1, p.2) (tells_refusal c.in_err-heading.field-0.0 _ (not_read c.args.text.now c.args.stated.now _ _ c.in_err-heading.ensures))
