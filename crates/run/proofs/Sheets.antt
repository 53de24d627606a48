-- From the walk to the sheet: the start rows, the written record, and the run's definition. Assumes nothing.
use mathlib.Core.Path.{◌≡◌, refl, sym, ◌∙◌, ap, ap₂}
use mathlib.Core.Bool.{Bool}
use mathlib.Core.List.{List, map}
use Prim.Native.Nat.{ℕ, ◌+◌, ◌≤◌, ◌<◌}
use native.Mathlib.Omega.{arith}
use lib.Dec.{leb}
use lib.ListN.{length, take, drop, length-take, length-map}
use borrow.Author.Tests.{le-leb, lt-leb}
use Rattle.limits.specs.Limits.{most_qubits, most_operations}
use Rattle.answers.specs.Verdict.{Verdict, accepted, refused, then, unless, over}
use Rattle.clifford.specs.declared.Op.{Op}
use Rattle.clifford.specs.Tableau.{Rows}
use Rattle.clifford.specs.Run.{State, run, begin}
use Rattle.circuit.specs.Text.{Circuit, meaning, operations, count_measured}
use Rattle.circuit.specs.Lines.{Found, found}
use Rattle.checking.specs.Parts.Promises.{added, Headed, Accepts}
use Rattle.checking.proofs.Meant.{lines_counted, parts}
use Rattle.packing.specs.View.{rows_of}
use Rattle.records.specs.Record.{mark, record_with, record_length}
use Rattle.records.proofs.Lengths.{length-record}
use Rattle.tally.specs.declared.Tally.{Tally}
use Rattle.std.specs.Prelude.{Ok, Err}
use Rattle.answers.specs.declared.Refusal.{Refusal}
use Rattle.answers.specs.Refusals.{number_of, place_of}
use Rattle.run.specs.declared.Ran.{Ran}
use Rattle.run.specs.Run.{Sheet, sheet, run_circuit, run_of, ran_of, rest_of, buffer_after, Runs}
use Rattle.walking.specs.Parts.Walk.{lines_of, or_none, Ended, Stuck}
use Rattle.run.specs.Parts.Ran.{judgement, Sheeted}
use Rattle.walking.proofs.Counting.{run_count, measured_few}

-- as many characters as there are measurements
pub ended_count : (text : List ℕ) (body n : ℕ) (coins words marks : List ℕ) (t : Tally) → Ended text body n coins words marks t → t.measured ≡ count_measured (lines_of n body text)
ended_count text body n coins words marks t e = omega (arith, e.view.count, run_count n 2 (lines_of n body text) (begin n coins) e.state e.is)

pub ended_room : (text : List ℕ) (body n : ℕ) (coins words marks : List ℕ) (t : Tally) → Ended text body n coins words marks t → length (take t.measured marks) ≡ t.measured
ended_room text body n coins words marks t e = ap length (sym e.view.marks_are) ∙ length-map_mark ∙ sym e.view.count
  where
    length-map_mark : length (map mark e.state.outcomes) ≡ length e.state.outcomes
    length-map_mark = length-map e.state.outcomes mark

-- they fit the array, and the record fits the buffer
pub ended_within : (text : List ℕ) (body n : ℕ) (coins words marks : List ℕ) (t : Tally) → Ended text body n coins words marks t → t.measured ≤ length marks
ended_within text body n coins words marks t e = omega (arith, ended_room text body n coins words marks t e, length-take t.measured marks)

pub ended_few : (text : List ℕ) (body n : ℕ) (coins words marks : List ℕ) (t : Tally) → Ended text body n coins words marks t → length (take t.measured marks) ≤ most_operations
ended_few text body n coins words marks t e = omega (arith, ended_room text body n coins words marks t e, ended_within text body n coins words marks t e, e.view.room)

-- the circuit was run to its end, and its record written
pub record Played (text : List ℕ) (body n : ℕ) (coins old : List ℕ) (size : ℕ) (t : Tally) (new : List ℕ) : Type 0 where
  pub state : State
  pub is : run n 2 (lines_of n body text) (begin n coins) ≡ accepted state
  pub size_is : size ≡ length (sheet n coins state).bytes
  pub tally_is : t ≡ (sheet n coins state).tally
  pub enough : t.taken ≤ length coins
  pub buffer : new ≡ over (sheet n coins state).bytes old

ended_played : (text : List ℕ) (body n : ℕ) (coins words marks : List ℕ) (t : Tally) (old : List ℕ) (size : ℕ) (new : List ℕ) → Ended text body n coins words marks t
    → size ≡ record_length n (length (take t.measured marks)) → new ≡ over (record_with n (take t.measured marks) (rows_of n words)) old
    → Played text body n coins old size t new
ended_played text body n coins words marks t old size new e z b =
    let m : map mark e.state.outcomes ≡ take t.measured marks = e.view.marks_are in
    record {
      state = e.state;
      is = e.is;
      size_is = z ∙ ap (λ (l : List ℕ). record_length n (length l)) (sym m) ∙ sym (length-record n (map mark e.state.outcomes) e.state.rows);
      tally_is = e.view.tally_is;
      enough = e.view.enough;
      buffer = b ∙ sym (ap₂ (λ (l : List ℕ) (r : Rows). over (record_with n l r) old) m e.view.rows_are);
    }

-- the run of an accepted text
module _ (text coins old : List ℕ) (n count measured body : ℕ) (a : Accepts text n count measured body) where
  lines_are : lines_of n body text ≡ a.circuit.ops
  lines_are = ap or_none a.lines

  met : run_of text coins (length old) ≡ unless (leb (record_length n measured) (length old)) 8 0 (run_circuit a.circuit coins)
  unfolding run_of
  met =
      ap (λ (v : Verdict Circuit). then v (λ c. unless (leb (record_length c.qubits (count_measured c.ops)) (length old)) 8 0 (run_circuit c coins))) a.meant
      ∙ ap₂ (λ (m k : ℕ). unless (leb (record_length m k) (length old)) 8 0 (run_circuit a.circuit coins)) (sym a.qubits_is) (sym a.measured_is)

  no_room : length old < record_length n measured → run_of text coins (length old) ≡ refused 8 0
  no_room h = met ∙ ap (λ (b : Bool). unless b 8 0 (run_circuit a.circuit coins)) (lt-leb (record_length n measured) (length old) h)

  played : record_length n measured ≤ length old → (v : Verdict State) → run n 2 (lines_of n body text) (begin n coins) ≡ v
      → run_of text coins (length old) ≡ then v (λ e. accepted (sheet n coins e))
  unfolding run_circuit
  played h v e =
      met ∙ ap (λ (b : Bool). unless b 8 0 (run_circuit a.circuit coins)) (le-leb (record_length n measured) (length old) h)
      ∙ ap₂ (λ (m : ℕ) (ops : List Op). then (run m 2 ops (begin m coins)) (λ e. accepted (sheet m coins e))) (sym a.qubits_is) (sym lines_are)
      ∙ ap (λ (w : Verdict State). then w (λ e. accepted (sheet n coins e))) e

  sheeted : record_length n measured ≤ length old → (size : ℕ) (t : Tally) (new : List ℕ) → Played text body n coins old size t new → Sheeted text coins old size t new
  sheeted h size t new p = record {
    sheet = sheet n coins p.state;
    is = played h (accepted p.state) p.is;
    size_is = p.size_is;
    tally_is = p.tally_is;
    enough = p.enough;
    buffer = p.buffer;
  }

-- where no coin is found
module _ (text : List ℕ) (n count measured body : ℕ) (a : Accepts text n count measured body) where
  judged_met : (line room : ℕ) → judgement text line room ≡ unless (leb (record_length n measured) room) 8 0 (refused 7 line)
  unfolding judgement
  judged_met line room =
      ap (λ (v : Verdict Circuit). then v (λ c. unless (leb (record_length c.qubits (count_measured c.ops)) room) 8 0 (refused 7 line))) a.meant
      ∙ ap₂ (λ (m k : ℕ). unless (leb (record_length m k) room) 8 0 (refused 7 line)) (sym a.qubits_is) (sym a.measured_is)

  pub judged_room : (line room : ℕ) → room < record_length n measured → judgement text line room ≡ refused 8 0
  judged_room line room h = judged_met line room ∙ ap (λ (b : Bool). unless b 8 0 (refused 7 line)) (lt-leb (record_length n measured) room h)

  pub judged_coin : (line room : ℕ) → record_length n measured ≤ room → judgement text line room ≡ refused 7 line
  judged_coin line room h = judged_met line room ∙ ap (λ (b : Bool). unless b 8 0 (refused 7 line)) (le-leb (record_length n measured) room h)

-- the walk came to the end of a text with this line 1
module _ (text : List ℕ) (body n : ℕ) (coins words marks : List ℕ) (t : Tally) (h : Headed text n body) (e : Ended text body n coins words marks t) where
  accepts : Accepts text n (length (lines_of n body text)) t.measured body
  accepts =
      let k : t.measured ≡ 0 + count_measured (lines_of n body text) = omega (arith, ended_count text body n coins words marks t e) in
      let l : length (lines_of n body text) ≡ 0 + length (lines_of n body text) = omega arith in
      lines_counted text n body h.stands (length (lines_of n body text)) t.measured h.some_qubits h.few_qubits
      ((λ i. accepted (record { operations = l i; measured = k i })) ∙ sym (ap (λ (v : Verdict (List Op)). then v (λ ops. accepted (added 0 0 ops))) e.lines))

  pub ended_size : (n ≤ most_qubits) × (t.measured ≤ most_operations)
  ended_size = (h.few_qubits, omega (arith, ended_within text body n coins words marks t e, e.view.room))

  pub ended_no_room : (old : List ℕ) → length old < record_length n t.measured → run_of text coins (length old) ≡ refused 8 0
  ended_no_room old l = no_room text coins old n (length (lines_of n body text)) t.measured body accepts l

  pub ended_sheeted : (old : List ℕ) (size : ℕ) (new : List ℕ) → record_length n t.measured ≤ length old → size ≡ record_length n (length (take t.measured marks))
      → new ≡ over (record_with n (take t.measured marks) (rows_of n words)) old → Sheeted text coins old size t new
  ended_sheeted old size new l z b =
      sheeted text coins old n (length (lines_of n body text)) t.measured body accepts l size t new (ended_played text body n coins words marks t old size new e z b)

-- it stopped before
stuck_circuit : (text coins : List ℕ) (n body line : ℕ) → Headed text n body → Stuck text body n coins line → (c : Circuit) → meaning text ≡ accepted c → run_circuit c coins ≡ refused 7 line
unfolding run_circuit
stuck_circuit text coins n body line h k c m =
    let p = parts text c m in
    let e : ◌≡◌ {A = Found ℕ} (found n (drop body text)) (found c.qubits p.rest) = sym h.stands.reads ∙ p.header_is in
    let q : n ≡ c.qubits = cc in
    let r : drop body text ≡ p.rest = cc in
    let l : operations n most_operations 2 (drop body text) ≡ accepted c.ops = rw (q, r) p.lines in
    let o : lines_of n body text ≡ c.ops = ap or_none l in
    let s : run n 2 (lines_of n body text) (begin n coins) ≡ refused 7 line = k (l ∙ ap accepted (sym o)) in
    ap₂ (λ (m : ℕ) (ops : List Op). then (run m 2 ops (begin m coins)) (λ e. accepted (sheet m coins e))) (sym q) (sym o)
    ∙ ap (λ (v : Verdict State). then v (λ e. accepted (sheet n coins e))) s

pub stuck_run : (text coins : List ℕ) (n body line room a p : ℕ) → Headed text n body → Stuck text body n coins line → judgement text line room ≡ refused a p → run_of text coins room ≡ refused a p
unfolding run_of judgement
stuck_run text coins n body line room a p h k j = go (meaning text) (stuck_circuit text coins n body line h k) ∙ j
  where
    go : (v : Verdict Circuit) → ((c : Circuit) → v ≡ accepted c → run_circuit c coins ≡ refused 7 line)
        → then v (λ c. unless (leb (record_length c.qubits (count_measured c.ops)) room) 8 0 (run_circuit c coins))
        ≡ then v (λ c. unless (leb (record_length c.qubits (count_measured c.ops)) room) 8 0 (refused 7 line))
    go (accepted c) f = ap (unless (leb (record_length c.qubits (count_measured c.ops)) room) 8 0) (f c refl)
    go (refused m q) f = refl

pub judged_refused : (text : List ℕ) (line room number place : ℕ) → meaning text ≡ refused number place → judgement text line room ≡ refused number place
unfolding judgement
judged_refused text line room number place e =
    ap (λ (v : Verdict Circuit). then v (λ c. unless (leb (record_length c.qubits (count_measured c.ops)) room) 8 0 (refused 7 line))) e

pub not_read : (text coins old : List ℕ) (number place : ℕ) → meaning text ≡ refused number place → run_of text coins (length old) ≡ refused number place
unfolding run_of
not_read text coins old number place e =
    ap (λ (v : Verdict Circuit). then v (λ c. unless (leb (record_length c.qubits (count_measured c.ops)) (length old)) 8 0 (run_circuit c coins))) e

pub may_size : (text : List ℕ) (n count measured body : ℕ) → Accepts text n count measured body → (n ≤ most_qubits) × (measured ≤ most_operations)
may_size text n count measured body a =
    let p = parts text a.circuit a.meant in
    (omega (arith, p.few_qubits, a.qubits_is), omega (arith, measured_few a.circuit.ops, p.few_operations, a.measured_is))

-- what the caller is told
abbrev the_ran : ℕ → Tally → Ran
the_ran k u = record { size = k; tally = u }

pub ran_sheet : (text coins old : List ℕ) (a : Ran) (rest new : List ℕ) → Sheeted text coins old a.size a.tally new → rest ≡ drop a.tally.taken coins → Runs text coins old (Ok a) rest new
ran_sheet text coins old a rest new r e = record {
  answers = ap₂ (λ (k : ℕ) (u : Tally). accepted (the_ran k u)) r.size_is r.tally_is ∙ sym (ap ran_of r.is);
  hands_back = e ∙ ap (λ (u : Tally). drop u.taken coins) r.tally_is ∙ sym (ap (λ (v : Verdict Sheet). rest_of v coins) r.is);
  buffer = r.buffer ∙ sym (ap (λ (v : Verdict Sheet). buffer_after v old) r.is);
}

pub ran_refused : (text coins old : List ℕ) (r : Refusal) (new : List ℕ) → run_of text coins (length old) ≡ refused (number_of r) (place_of r) → new ≡ old → Runs text coins old (Err r) coins new
ran_refused text coins old r new e b = record {
  answers = sym (ap ran_of e);
  hands_back = sym (ap (λ (v : Verdict Sheet). rest_of v coins) e);
  buffer = b ∙ sym (ap (λ (v : Verdict Sheet). buffer_after v old) e);
}
