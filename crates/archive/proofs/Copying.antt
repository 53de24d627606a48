-- What copying gives of a record that was read: the record written from it, which is the record that was read, byte for byte. Assumes nothing.
use mathlib.Core.Path.{◌≡◌, sym, ◌∙◌, ap}
use mathlib.Core.List.{List}
use Prim.Native.Nat.{ℕ, ◌+◌, ◌-◌}
use native.Mathlib.Omega.{arith}
use lib.ListN.{length, take, drop, length-drop}
use lib.Seq.{length-take-le}
use Rattle.answers.specs.Verdict.{Verdict, accepted, then}
use Rattle.packing.specs.View.{rows_of}
use Rattle.records.specs.Record.{record_with, record_length}
use Rattle.records.specs.Reading.{Read, read_of, last_record}
use Rattle.records.proofs.Numbers.{Bytes}
use Rattle.records.proofs.Again.{read_writes}
use Rattle.records.proofs.Lengths.{length-record}
use Rattle.reading.specs.declared.Last.{Last}
use Rattle.reading.specs.Answer.{read_at, Within}
use Rattle.archive.specs.Copy.{rewritten, copy_of}

module _ (s w : List ℕ) (l : Last) (within : Within s l) (answer : accepted (read_at s w l) ≡ read_of s) where
  -- the outcomes, as the part of the bytes that is handed to the writer
  abbrev pub part : List ℕ
  part = take (l.start + l.outcomes - l.start) (drop l.start s)

  pub part_length : length part ≡ l.outcomes
  part_length = length-take-le (l.start + l.outcomes - l.start) (drop l.start s) (omega (arith, length-drop l.start s, within.inside)) ∙ omega arith

  pub copied : copy_of s ≡ accepted (record_with l.qubits part (rows_of l.qubits w))
  copied =
      let e : l.outcomes ≡ l.start + l.outcomes - l.start = omega arith in
      ap (λ (v : Verdict Read). then v (λ q. accepted (rewritten q))) (sym answer) ∙ ap (λ (m : ℕ). accepted (record_with l.qubits (take m (drop l.start s)) (rows_of l.qubits w))) e

  pub copied_length : length (record_with l.qubits part (rows_of l.qubits w)) ≡ record_length l.qubits l.outcomes
  copied_length = length-record l.qubits part (rows_of l.qubits w) ∙ ap (record_length l.qubits) part_length

-- what is accepted is written again as the same bytes
pub copied_same : (s : List ℕ) (r : Read) → read_of s ≡ accepted r → Bytes s → copy_of s ≡ accepted (last_record s)
copied_same s r e bytes = ap (λ (v : Verdict Read). then v (λ q. accepted (rewritten q))) e ∙ ap accepted (sym (read_writes s r e bytes))
