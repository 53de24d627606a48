-- The numbers with which reading is refused: 9 to 11. Assumes nothing.
use mathlib.Core.List.{List}
use Prim.Native.Nat.{ℕ, ◌≤◌}
use native.Mathlib.Omega.{arith}
use Rattle.answers.proofs.Numbered.{RefusedBy, by_unless, by_unless_at}
use Rattle.records.specs.Reading.{ends_in_record, first_bad, rows_in, first_wrong, qubits_in, outcome_count, last_record, read_of}

abbrev pub ByReader : ℕ → Type 0
ByReader m = (9 ≤ m) × (m ≤ 11)

pub read_numbered : (s : List ℕ) → RefusedBy ByReader (read_of s)
unfolding read_of
read_numbered s =
    let n = qubits_in s in
    let count = outcome_count s in
    let r = last_record s in
    by_unless ByReader (ends_in_record s) 9 0 _ (omega arith)
    (by_unless_at ByReader 10 (first_bad n count r) _ (omega arith) (by_unless_at ByReader 11 (first_wrong n (rows_in n count r)) _ (omega arith) tt))
