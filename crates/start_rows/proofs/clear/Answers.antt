-- `start_rows::clear` meets its contract. Assumes nothing.
use mathlib.Core.Path.{refl}
use Rattle.std.proofs.lemmas.List.{get_or-replicate}
use Rattle.packing.specs.View.{word_count}
use Rattle.start_rows.proofs.clear.Goals as goal

pub returns : goal.returns
returns c = (refl, λ k l. get_or-replicate word_count k 0 0 l)
