-- The rows of packed words are clean, so that what the writer writes of properly paired ones reads back. Assumes nothing.
use mathlib.Core.Path.{◌≡◌, refl}
use mathlib.Core.Bool.{Bool, true, false, cond}
use mathlib.Core.List.{List, ◌++◌}
use Prim.Native.Nat.{ℕ, ◌+◌, ◌≤◌}
use lib.Dec.{ltb}
use lib.ListN.{length}
use Rattle.limits.specs.Limits.{most_operations, most_qubits}
use Rattle.answers.specs.Verdict.{accepted}
use Rattle.pauli.specs.Letters.{I}
use Rattle.clifford.specs.Tableau.{blank, Paired}
use Rattle.packing.specs.View.{letter_at, row_at, rows_from, rows_of}
use Rattle.packing.proofs.Views.{guard_out, rows_out}
use Rattle.records.specs.Record.{record_with, record_length}
use Rattle.records.specs.Reading.{read_of}
use Rattle.records.proofs.Outcomes.{Marks}
use Rattle.records.proofs.Held.{Tidy, Clean}
use Rattle.records.proofs.Written.{written_reads}

from_tidy : (n o : ℕ) (w : List ℕ) → Tidy n (rows_from n o w)
unfolding rows_from row_at
from_tidy n o w = record {
  letters = λ i j l. go i j l (ltb i n);
  blanks = rows_out n o w;
}
  where
    go : (i j : ℕ) → n ≤ j → (b : Bool) → (cond b (row_at n w (o + i)) blank).letters j ≡ I
    go i j l true = guard_out n (letter_at w (o + i)) j l
    go i j l false = refl

pub rows_clean : (n : ℕ) (w : List ℕ) → Clean n (rows_of n w)
rows_clean n w = record { destabilizers = from_tidy n 0 w; stabilizers = from_tidy n most_qubits w }

pub packed_reads : (n : ℕ) (before marks w : List ℕ) → 1 ≤ n → n ≤ most_qubits → length marks ≤ most_operations → Marks marks → Paired n (rows_of n w)
    → read_of (before ++ record_with n marks (rows_of n w)) ≡ accepted (record { qubits = n; size = record_length n (length marks); marks = marks; rows = rows_of n w })
packed_reads n before marks w least most few marked paired =
    written_reads n marks (rows_of n w) (record { least = least; most = most; few = few; marked = marked; paired = paired; clean = rows_clean n w }) before
