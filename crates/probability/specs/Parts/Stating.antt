-- What a walk with a stated readout comes to. Assumes nothing.
use Rattle.std.specs.Prelude.{ℕ, Option, None, Some}
use Rattle.readouts.specs.Readouts.{Weighed, possible, impossible}

-- a line on which it disagrees, or none and the number of random measurements
abbrev pub weighed_as : ℕ → Option ℕ → Weighed
weighed_as random None = possible random
weighed_as random (Some line) = impossible line
