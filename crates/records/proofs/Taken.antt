-- What holds of bytes whose last record is accepted. Assumes nothing.
use mathlib.Core.Path.{◌≡◌}
use mathlib.Core.List.{List}
use Rattle.std.specs.Prelude.{None}
use Prim.Native.Nat.{ℕ, ◌+◌}
use lib.ListN.{take}
use Rattle.answers.specs.Verdict.{accepted, unless_at}
use Rattle.answers.proofs.Accepting.{same_accepted, unless_passed, unless_at_passed}
use Rattle.records.specs.Record.{to_rows}
use Rattle.records.specs.Reading.{qubits_in, ends_in_record, last_record, outcome_count, first_bad, rows_in, first_wrong, reading, Read, read_of}
use Rattle.records.proofs.Ending.{Ending, ending}

-- what reading accepts
abbrev pub taken_as : ℕ → ℕ → List ℕ → Read
taken_as n count r = record { qubits = n; size = to_rows n + count; marks = take count r; rows = rows_in n count r }

pub record Taken (s : List ℕ) (r : Read) : Type 0 where
  pub ending : Ending s
  pub fits : first_bad (qubits_in s) (outcome_count s) (last_record s) ≡ None
  pub pairs : first_wrong (qubits_in s) (rows_in (qubits_in s) (outcome_count s) (last_record s)) ≡ None
  pub is : taken_as (qubits_in s) (outcome_count s) (last_record s) ≡ r

pub taken : (s : List ℕ) (r : Read) → read_of s ≡ accepted r → Taken s r
unfolding read_of
taken s r e =
    let n = qubits_in s in
    let count = outcome_count s in
    let l = last_record s in
    let a = unless_passed (ends_in_record s) 9 0 (reading n count l) r e in
    let b = unless_at_passed 10 (first_bad n count l) (unless_at 11 (first_wrong n (rows_in n count l)) (accepted (taken_as n count l))) r a.1 in
    let c = unless_at_passed 11 (first_wrong n (rows_in n count l)) (accepted (taken_as n count l)) r b.1 in
    record { ending = ending s a.0; fits = b.0; pairs = c.0; is = same_accepted (taken_as n count l) r c.1 }
