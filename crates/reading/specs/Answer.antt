-- What the reader answers, and what the lent words hold then: the rows of the record, or at a refusal the start rows of n = 1. Assumes nothing.
use Rattle.std.specs.Prelude.{cond, List, [], ◌≡◌, ℕ, ◌+◌, ◌-◌, ◌≤◌, length, take, drop, Option, Some, None, Result, Ok, Err}
use Rattle.limits.specs.Limits.{most_operations, most_qubits}
use Rattle.answers.specs.declared.Refusal.{Refusal}
use Rattle.answers.specs.Refusals.{told}
use Rattle.answers.specs.Verdict.{Verdict, accepted, refused, then}
use Rattle.clifford.specs.Tableau.{start}
use Rattle.packing.specs.View.{rows_of, Holds}
use Rattle.records.specs.Reading.{Read, read_of, ends_in_record, second_distance, outcome_count, qubits_in}
use Rattle.reading.specs.declared.Last.{Last}
use Rattle.reading.specs.declared.Record.{Record}

-- where the last record stands, if the bytes end in one
abbrev pub last_of : List ℕ → Option Last
last_of s = cond (ends_in_record s) (Some (record { start = length s - second_distance s; outcomes = outcome_count s; qubits = qubits_in s })) None

-- what the record that stands there tells of the bytes s, with the rows that the words w hold
abbrev pub read_at : List ℕ → List ℕ → Last → Read
read_at s w l = record { qubits = l.qubits; size = length s - l.start; marks = take l.outcomes (drop l.start s); rows = rows_of l.qubits w }

abbrev pub told_read : List ℕ → List ℕ → Result Last Refusal → Verdict Read
told_read s w r = then (told r) (λ l. accepted (read_at s w l))

-- how many qubits the words hold
abbrev pub qubits_held : Result Last Refusal → ℕ
qubits_held (Ok l) = l.qubits
qubits_held (Err r) = 1

-- the outcomes lie within the bytes, and the numbers within their limits
pub record Within (s : List ℕ) (l : Last) : Type 0 where
  pub inside : l.start + l.outcomes ≤ length s
  pub few : l.outcomes ≤ most_operations
  pub least : 1 ≤ l.qubits
  pub most : l.qubits ≤ most_qubits

abbrev pub Besides : List ℕ → List ℕ → Result Last Refusal → Type 0
Besides s w (Ok l) = Within s l
Besides s w (Err r) = rows_of 1 w ≡ start 1

-- what is answered of the bytes s, the words being w then
pub record Reads (s : List ℕ) (found : Result Last Refusal) (w : List ℕ) : Type 0 where
  pub answer : told_read s w found ≡ read_of s
  pub besides : Besides s w found
  pub holds : Holds (qubits_held found) w

-- what is handed out tells, with the rows that the words w hold
abbrev pub read_from : List ℕ → Record → Read
read_from w h = record { qubits = h.qubits; size = h.size; marks = h.outcomes.now; rows = rows_of h.qubits w }

-- the rows that the words hold: the record's, or at a refusal the start rows of n = 1
abbrev pub handed : Verdict Read → Read
handed (accepted r) = r
handed (refused number place) = record { qubits = 1; size = 0; marks = []; rows = start 1 }

-- the record that is handed out of the bytes s, or its refusal, and the words
pub record Hands (s : List ℕ) (found : Result Record Refusal) (w : List ℕ) : Type 0 where
  pub answer : then (told found) (λ h. accepted (read_from w h)) ≡ read_of s
  pub rows : rows_of (handed (read_of s)).qubits w ≡ (handed (read_of s)).rows
  pub holds : Holds (handed (read_of s)).qubits w
