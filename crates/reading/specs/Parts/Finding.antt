-- What the finding of the last record promises the reader: of the words it says nothing where it refuses. Assumes nothing.
use Rattle.std.specs.Prelude.{List, ◌≡◌, ℕ, Result, IfOk}
use Rattle.answers.specs.declared.Refusal.{Refusal}
use Rattle.packing.specs.View.{Holds}
use Rattle.records.specs.Reading.{read_of}
use Rattle.reading.specs.declared.Last.{Last}
use Rattle.reading.specs.Answer.{told_read, Within}

pub record Finds (s : List ℕ) (found : Result Last Refusal) (w : List ℕ) : Type 0 where
  pub answer : told_read s w found ≡ read_of s
  pub besides : IfOk found (λ l. Within s l × Holds l.qubits w)
