-- Copying a record out: it is read, then written from what was read. Assumes nothing.
use Rattle.std.specs.Prelude.{List, ℕ}
use Rattle.answers.specs.Verdict.{Verdict, accepted, then}
use Rattle.records.specs.Record.{record_with}
use Rattle.records.specs.Reading.{Read, read_of}

abbrev pub rewritten : Read → List ℕ
rewritten r = record_with r.qubits r.marks r.rows

-- 9, 10, 11 as reading, then 8
abbrev pub copy_of : List ℕ → Verdict (List ℕ)
copy_of s = then (read_of s) (λ r. accepted (rewritten r))
