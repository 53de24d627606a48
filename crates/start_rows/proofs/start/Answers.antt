-- `start_rows::start` meets its contract. Assumes nothing.
use Rattle.std.proofs.lemmas.List.{get_or-replicate}
use Rattle.packing.specs.View.{word_count}
use Rattle.start_rows.proofs.start.Goals as goal

pub put_letters-requires : goal.put_letters-requires
put_letters-requires c = (c.requires, λ k l. get_or-replicate word_count k 0 0 l)
