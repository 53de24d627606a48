-- What the parts of a run promise one another behind the walk: why it stopped, or the sheet. Assumes nothing.
use Rattle.std.specs.Prelude.{List, ◌≡◌, ℕ, ◌≤◌, leb, length, Result, Ok, Err}
use Rattle.answers.specs.Refusals.{number_of, place_of}
use Rattle.answers.specs.Verdict.{Verdict, accepted, refused, then, unless, over}
use Rattle.circuit.specs.Text.{meaning, count_measured}
use Rattle.records.specs.Record.{record_length}
use Rattle.answers.specs.declared.Refusal.{Refusal}
use Rattle.run.specs.declared.Ran.{Ran}
use Rattle.tally.specs.declared.Tally.{Tally}
use Rattle.run.specs.Run.{Sheet, run_of}

-- what is answered where the run of an accepted text finds no coin on this line
unfoldable pub judgement : List ℕ → ℕ → ℕ → Verdict Sheet
judgement text line room = then (meaning text) (λ c. unless (leb (record_length c.qubits (count_measured c.ops)) room) 8 0 (refused 7 line))

-- the run was accepted
pub record Sheeted (text coins old : List ℕ) (size : ℕ) (t : Tally) (new : List ℕ) : Type 0 where
  pub sheet : Sheet
  pub is : run_of text coins (length old) ≡ accepted sheet
  pub size_is : size ≡ length sheet.bytes
  pub tally_is : t ≡ sheet.tally
  pub enough : t.taken ≤ length coins
  pub buffer : new ≡ over sheet.bytes old

abbrev pub RanAs : List ℕ → List ℕ → List ℕ → Result Ran Refusal → List ℕ → Type 0
RanAs text coins old (Ok r) new = Sheeted text coins old r.size r.tally new
RanAs text coins old (Err r) new = (run_of text coins (length old) ≡ refused (number_of r) (place_of r)) × (new ≡ old)
