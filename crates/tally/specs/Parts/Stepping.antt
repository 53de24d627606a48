-- What the functions that step a tally promise one another: one measurement more, and one more random with its coin where it is random. Assumes nothing.
use Rattle.std.specs.Prelude.{Bool, ◌+◌}
use Rattle.tally.specs.declared.Tally.{Tally}
use Rattle.tally.specs.Tally.{one_if}

abbrev pub none_yet : Tally
none_yet = record { measured = 0; random = 0; taken = 0 }

abbrev pub stepped : Bool → Tally → Tally
stepped random t = record { measured = t.measured + 1; random = t.random + one_if random; taken = t.taken + one_if random }
