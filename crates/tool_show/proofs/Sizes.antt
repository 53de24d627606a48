-- The parts of a record that is handed out lie within the bytes that were lent. Assumes nothing.
use Rattle.std.proofs.Common.{ℕ, ◌+◌, ◌≤◌, sym, List, length, Ok, arith}
use Rattle.limits.specs.Limits.{most_qubits}
use Rattle.records.proofs.Again.{read_held, read_size, read_inside}
use Rattle.reading.specs.declared.Record.{Record}
use Rattle.reading.specs.Answer.{Hands, read_from}

pub handed_sizes : (s : List ℕ) (r : Record) (w : List ℕ) → Hands s (Ok r) w → (r.size ≤ length s) × (length r.outcomes.now + 12 ≤ r.size) × (r.qubits ≤ most_qubits)
handed_sizes s r w h =
    let e = sym h.answer in
    (read_inside s (read_from w r) e, omega (arith, read_size s (read_from w r) e), (read_held s (read_from w r) e).most)
