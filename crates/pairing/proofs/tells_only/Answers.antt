-- `pairing::tells_only` meets its contract. Assumes nothing.
use borrow.Author.Rules.{rules}
use mathlib.Core.Path.{sym, ◌∙◌}
use Rattle.groups.proofs.Equal.{Fits, same_rows, same_groups}
use Rattle.pairing.proofs.tells_only.Goals as goal

pub returns : goal.returns
returns c =
    let g = c.args.g in
    let h = c.row.result in
    let fg : Fits g = record { a = search rules; b = search rules; c = search rules; d = search rules } in
    let fh : Fits h = record { a = search rules; b = search rules; c = search rules; d = search rules } in (
      λ e s l. same_rows g h (sym c.eq.ensures ∙ e) s l ∙ c.row.ensures s l,
      λ r. c.eq.ensures ∙ same_groups g h fg fh (λ s l. r s l ∙ sym (c.row.ensures s l)),
    )
