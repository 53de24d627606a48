-- What a run leaves to print: where it is refused, its refusal; where it came to its end, a record that holds the printed lines. Assumes nothing.
use mathlib.Core.Bool.{true}
use mathlib.Core.List.{List, ◌++◌, map, append_assoc}
use mathlib.Core.Path.{◌≡◌, refl, sym, ◌∙◌, ap, ap₂, subst}
use Prim.Native.Nat.{ℕ, ◌≤◌}
use native.Mathlib.Omega.{arith}
use borrow.Author.Tests.{le-leb}
use lib.Dec.{leb}
use lib.ListN.{length, drop}
use Rattle.std.specs.Prelude.{Result, Ok, Err}
use Rattle.answers.specs.Verdict.{Verdict, accepted, refused, then, unless, over}
use Rattle.answers.specs.declared.Refusal.{Refusal}
use Rattle.answers.specs.Refusals.{number_of, place_of}
use Rattle.answers.proofs.Accepting.{same_accepted, unless_passed, then_accepted}
use Rattle.answers.proofs.Numbered.{not_accepted}
use Rattle.clifford.specs.declared.Op.{Op}
use Rattle.clifford.specs.Run.{State, run, begin}
use Rattle.circuit.specs.Text.{Circuit, meaning, operations, count_measured}
use Rattle.circuit.proofs.Readings.{same_found}
use Rattle.checking.specs.declared.Heading.{Heading}
use Rattle.checking.specs.Parts.Promises.{Headed, Heads}
use Rattle.checking.proofs.Meant.{parts}
use Rattle.limits.specs.Limits.{most_operations}
use Rattle.records.specs.Record.{longest_record, mark, rows_text, trailer, record_with, record_of, record_length}
use Rattle.records.proofs.Lengths.{record_within}
use Rattle.run.specs.declared.Ran.{Ran}
use Rattle.run.specs.Run.{Sheet, sheet, run_circuit, run_of, ran_of, buffer_after, Runs}
use Rattle.walking.specs.Parts.Walk.{lines_of, or_none}
use Rattle.walking.proofs.Counting.{run_count, measured_few}
use Rattle.print_lines.specs.Line.{refusal_line}
use Rattle.print.specs.Printed.{run_lines, or_refusal, printed}
use Rattle.print.specs.Parts.Sheets.{sheet_lines, Ready, Answered}
use Rattle.print.proofs.Sheets.{sheet_is}

abbrev ended : Circuit → List ℕ → Verdict State
ended c coins = run c.qubits 2 c.ops (begin c.qubits coins)

abbrev runs_from : List ℕ → ℕ → Verdict Circuit → Verdict Sheet
runs_from coins room m =
    then m (λ c. unless (leb (record_length c.qubits (count_measured c.ops)) room) 8 0 (then (ended c coins) (λ e. accepted (sheet c.qubits coins e))))

abbrev prints_from : List ℕ → Verdict Circuit → List ℕ
prints_from coins m = or_refusal (then m (λ c. then (ended c coins) (λ e. accepted (run_lines c e))))

run_is : (text coins : List ℕ) (room : ℕ) → run_of text coins room ≡ runs_from coins room (meaning text)
unfolding run_of run_circuit
run_is text coins room = refl

printed_is : (text coins : List ℕ) → printed text coins ≡ prints_from coins (meaning text)
unfolding printed
printed_is text coins = refl

-- every record fits
fits : (text : List ℕ) (room : ℕ) (c : Circuit) → longest_record ≤ room → meaning text ≡ accepted c → record_length c.qubits (count_measured c.ops) ≤ room
fits text room c h m =
    let p = parts text c m in
    omega (arith, record_within c.qubits (count_measured c.ops) p.few_qubits (omega (arith, measured_few c.ops, p.few_operations)))

-- the same refusal
refusal_as : {A : Type 0} (a p b q : ℕ) → ◌≡◌ {A = Verdict A} (refused a p) (refused b q) → refusal_line a p ≡ refusal_line b q
refusal_as a p b q e =
    let x : a ≡ b = cc in
    let y : p ≡ q = cc in
    ap₂ refusal_line x y

-- a refused run, with room for every record, is printed as its refusal
refused_run : (text coins : List ℕ) (room number place : ℕ) → longest_record ≤ room → run_of text coins room ≡ refused number place → printed text coins ≡ refusal_line number place
refused_run text coins room number place h e = go (meaning text) refl
  where
    runs : (m : Verdict Circuit) → meaning text ≡ m → runs_from coins room m ≡ refused number place
    runs m q = sym (run_is text coins room ∙ ap (runs_from coins room) q) ∙ e

    played : (c : Circuit) → meaning text ≡ accepted c → (v : Verdict State) → ended c coins ≡ v
        → unless true 8 0 (then v (λ e. accepted (sheet c.qubits coins e))) ≡ refused number place → or_refusal (then v (λ e. accepted (run_lines c e))) ≡ refusal_line number place
    played c q (accepted s) k w = absurd (not_accepted number place (sheet c.qubits coins s) (sym w))
    played c q (refused a p) k w = refusal_as a p number place w

    go : (m : Verdict Circuit) → meaning text ≡ m → printed text coins ≡ refusal_line number place
    go (refused a p) q = printed_is text coins ∙ ap (prints_from coins) q ∙ refusal_as a p number place (runs (refused a p) q)
    go (accepted c) q =
        let enough : leb (record_length c.qubits (count_measured c.ops)) room ≡ true = le-leb (record_length c.qubits (count_measured c.ops)) room (fits text room c h q) in
        printed_is text coins ∙ ap (prints_from coins) q
        ∙ played c q (ended c coins) refl (rw enough at (runs (accepted c) q))

-- a run that came to its end
record Came (text coins old new : List ℕ) : Type 0 where
  circuit : Circuit
  state : State
  meant : meaning text ≡ accepted circuit
  ran : ended circuit coins ≡ accepted state
  held : new ≡ over (record_of circuit.qubits state.outcomes state.rows) old

held_as : (old new : List ℕ) (v : Verdict Sheet) (s t : Sheet) → new ≡ buffer_after v old → v ≡ accepted s → t ≡ s → new ≡ over t.bytes old
held_as old new v s t b e f = b ∙ ap (λ (u : Verdict Sheet). buffer_after u old) e ∙ ap (λ (x : Sheet). over x.bytes old) (sym f)

came : (text coins old rest new : List ℕ) (r : Ran) → Runs text coins old (Ok r) rest new → Came text coins old new
came text coins old rest new r w =
    let room = length old in
    let s = then_accepted (run_of text coins room) (λ s. accepted (record { size = length s.bytes; tally = s.tally })) r (sym w.answers) in
    let played : runs_from coins room (meaning text) ≡ accepted s.value = sym (run_is text coins room) ∙ s.first in
    let c = then_accepted (meaning text) (λ c. unless (leb (record_length c.qubits (count_measured c.ops)) room) 8 0 (then (ended c coins) (λ e. accepted (sheet c.qubits coins e)))) s.value played in
    let u = unless_passed (leb (record_length c.value.qubits (count_measured c.value.ops)) room) 8 0 (then (ended c.value coins) (λ e. accepted (sheet c.value.qubits coins e))) s.value c.later in
    let e = then_accepted (ended c.value coins) (λ e. accepted (sheet c.value.qubits coins e)) s.value u.1 in
    let b : sheet c.value.qubits coins e.value ≡ s.value = same_accepted (sheet c.value.qubits coins e.value) s.value e.later in
    record {
      circuit = c.value;
      state = e.value;
      meant = c.first;
      ran = e.first;
      held = held_as old new (run_of text coins room) s.value (sheet c.value.qubits coins e.value) w.buffer s.first b;
    }

regroup : (m r t d : List ℕ) → m ++ r ++ t ++ d ≡ m ++ (r ++ (t ++ d))
regroup m r t d = simp append_assoc

module _ (text coins old new : List ℕ) (w : Came text coins old new) (n body : ℕ) (h : Headed text n body) where
  abbrev c : Circuit
  c = w.circuit

  headed : (c.qubits ≡ n) × ((parts text c w.meant).rest ≡ drop body text)
  headed = let p = parts text c w.meant in same_found n c.qubits (drop body text) p.rest (sym h.stands.reads ∙ p.header_is)

  lines : operations n most_operations 2 (drop body text) ≡ accepted c.ops
  lines = sym (ap₂ (λ (k : ℕ) (s : List ℕ). operations k most_operations 2 s) headed.0 headed.1) ∙ (parts text c w.meant).lines

  lines_are : lines_of n body text ≡ c.ops
  lines_are = ap or_none lines

  ready : longest_record ≤ length old → length new ≡ length old → Ready text body n new
  ready room k = record {
    some_qubits = h.some_qubits;
    few_qubits = h.few_qubits;
    lines = lines ∙ ap accepted (sym lines_are);
    room =
        let f : record_length n (count_measured c.ops) ≤ length old = subst (λ (k : ℕ). record_length k (count_measured c.ops) ≤ length old) headed.0 (fits text (length old) c room w.meant) in
        omega (arith, ap count_measured lines_are, f, k);
  }

  -- the record holds the lines
  recorded : printed text coins ≡ sheet_lines (lines_of n body text) n new
  unfolding record_with
  recorded =
      let e = w.state in
      let marks = map mark e.outcomes in
      let t = rows_text c.qubits e.rows in
      let end = trailer c.qubits (length marks) in
      let tail = drop (length (record_of c.qubits e.outcomes e.rows)) old in
      let held : new ≡ marks ++ (t ++ (end ++ tail)) = w.held ∙ regroup marks t end tail in
      let k = run_count c.qubits 2 c.ops (begin c.qubits coins) e w.ran in
      printed_is text coins ∙ ap (prints_from coins) w.meant ∙ ap (λ (v : Verdict State). or_refusal (then v (λ e. accepted (run_lines c e)))) w.ran
      ∙ sym (sheet_is c.ops c.qubits e.outcomes e.rows new (end ++ tail) (omega (arith, k)) held)
      ∙ ap₂ (λ (ops : List Op) (k : ℕ). sheet_lines ops k new) (sym lines_are) headed.0

-- what is printed of an answer of the run
module _ (text coins old rest new : List ℕ) (room : longest_record ≤ length old) where
  pub answered_refusal : (r : Refusal) → Runs text coins old (Err r) rest new → Answered text coins old (Err r) (Err r) new
  answered_refusal r w = record {
    recorded = record { rest = rest; runs = w };
    ready = tt;
    lines = refused_run text coins (length old) (number_of r) (place_of r) room (go (run_of text coins (length old)) refl);
  }
    where
      go : (v : Verdict Sheet) → run_of text coins (length old) ≡ v → run_of text coins (length old) ≡ refused (number_of r) (place_of r)
      go (accepted s) q = absurd (not_accepted (number_of r) (place_of r) (record { size = length s.bytes; tally = s.tally }) (w.answers ∙ ap ran_of q))
      go (refused a p) q =
          let u : ◌≡◌ {A = Verdict Ran} (refused (number_of r) (place_of r)) (refused a p) = w.answers ∙ ap ran_of q in
          let x : a ≡ number_of r = cc in
          let y : p ≡ place_of r = cc in
          q ∙ (λ i. refused (x i) (y i))

  pub answered_lines : (r : Ran) (h : Result Heading Refusal) → Runs text coins old (Ok r) rest new → Heads text h → length new ≡ length old → Answered text coins old (Ok r) h new
  answered_lines r (Ok h) w k l =
      let c = came text coins old rest new r w in
      record {
        recorded = record { rest = rest; runs = w };
        ready = ready text coins old new c h.qubits h.body k room l;
        lines = recorded text coins old new c h.qubits h.body k;
      }
  answered_lines r (Err e) w k l =
      let c = came text coins old rest new r w in
      absurd (not_accepted (number_of e) (place_of e) c.circuit (sym k ∙ c.meant))
