-- With room for the longest record a copy is never refused with 8. Assumes nothing.
use mathlib.Core.Path.{◌≡◌, ap}
use mathlib.Core.List.{List}
use Prim.Native.Nat.{ℕ, ◌≤◌}
use native.Mathlib.Omega.{arith}
use lib.ListN.{length}
use Rattle.answers.specs.Verdict.{Verdict, accepted, refused, then, within}
use Rattle.answers.proofs.Numbered.{by_then, by_more, Not8, not_accepted, room_enough}
use Rattle.records.specs.Record.{longest_record}
use Rattle.records.specs.Reading.{Read, read_of}
use Rattle.records.proofs.Lengths.{length-record, record_within}
use Rattle.records.proofs.Again.{read_held}
use Rattle.records.proofs.Numbered.{ByReader, read_numbered}
use Rattle.archive.specs.Copy.{rewritten, copy_of}

rewritten_within : (s : List ℕ) (r : Read) → read_of s ≡ accepted r → length (rewritten r) ≤ longest_record
rewritten_within s r e = let h = read_held s r e in omega (arith, length-record r.qubits r.marks r.rows, record_within r.qubits (length r.marks) h.most h.few)

pub copy_has_room : (s : List ℕ) (room : ℕ) → longest_record ≤ room → (place : ℕ) → then (copy_of s) (within room) ≡ refused 8 place → ⊥
copy_has_room s room h =
    room_enough (copy_of s) room (by_then Not8 (read_of s) (λ r. accepted (rewritten r)) (by_more ByReader Not8 (λ m k e. omega (arith, k.0)) (read_of s) (read_numbered s)) (λ r. tt)) (fits (read_of s) (rewritten_within s))
  where
    fits : (v : Verdict Read) → ((r : Read) → v ≡ accepted r → length (rewritten r) ≤ longest_record) → (bytes : List ℕ) → then v (λ r. accepted (rewritten r)) ≡ accepted bytes → length bytes ≤ room
    fits (accepted r) k bytes e = let q : rewritten r ≡ bytes = cc in omega (arith, k r (λ i. accepted r), ap length q, h)
    fits (refused number place) k bytes e = absurd (not_accepted number place bytes e)
