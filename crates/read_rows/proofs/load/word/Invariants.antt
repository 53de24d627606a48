use mathlib.Core.Path.{◌≡◌}
use Prim.Native.Nat.{ℕ, ◌<◌}
use lib.ListN.{length, get_or}
use Rattle.packing.specs.Parts.Planes.{byte_place}
use Rattle.read_rows.proofs.load.word.Given as goal

abbrev pub invariant-loop-r : goal.invariant-loop-r
invariant-loop-r l = (length l.bytes ≡ 8) × ((k : ℕ) → k < l.r → get_or l.bytes k 0 ≡ get_or l.plane (byte_place k l.j) 0)
