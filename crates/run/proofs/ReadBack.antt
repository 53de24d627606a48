-- What an accepted run is: properly paired rows after every operation, with what follows for products of them, and a record that reads back as the same outcomes
-- and rows, whatever stands before it. Assumes nothing.
use mathlib.Core.Path.{◌≡◌, sym, ◌∙◌, ap, subst}
use mathlib.Core.Bool.{Bool}
use mathlib.Core.List.{List, ◌++◌, map}
use Prim.Native.Nat.{ℕ, ◌≤◌}
use native.Mathlib.Omega.{arith}
use lib.Dec.{leb}
use borrow.Author.Tests.{leb-true, le-leb}
use lib.ListN.{length, length-map}
use Rattle.answers.specs.Verdict.{Verdict, accepted, then, unless}
use Rattle.answers.proofs.Accepting.{unless_passed, then_accepted}
use Rattle.clifford.specs.declared.Op.{Op}
use Rattle.clifford.specs.Tableau.{Paired, numbered}
use Rattle.clifford.specs.Generators.{Generators}
use Rattle.clifford.specs.Run.{State, run, AllValid, begin}
use Rattle.clifford.proofs.Start.{start_paired}
use Rattle.clifford.proofs.Fixed.{paired_generators}
use Rattle.clifford.proofs.Keeping.{Kept, run_keeps}
use Rattle.clifford.proofs.Running.{pairing, valid_front, Reached, every_prefix}
use Rattle.circuit.specs.Text.{Circuit, meaning, count_measured}
use Rattle.checking.proofs.Meant.{parts}
use Rattle.records.specs.Record.{mark, record_of, record_length}
use Rattle.records.specs.Reading.{qubits_in, record_row, read_of}
use Rattle.records.proofs.Lengths.{length-record}
use Rattle.records.proofs.Held.{Held, Clean}
use Rattle.records.proofs.Outcomes.{outcomes_marked}
use Rattle.records.proofs.Start.{start_clean}
use Rattle.records.proofs.Written.{written_reads}
use Rattle.records.proofs.Meant.{accepted_generators}
use Rattle.run.specs.Run.{Sheet, sheet, run_circuit, run_of}
use Rattle.run.proofs.Cleanness.{cleaning}
use Rattle.walking.proofs.Counting.{run_count, measured_few}

-- the circuit of an accepted run, and the state in which it ended
pub record AcceptedRun (text coins : List ℕ) (s : Sheet) : Type 0 where
  pub circuit : Circuit
  pub meant : meaning text ≡ accepted circuit
  pub state : State
  pub ran : run circuit.qubits 2 circuit.ops (begin circuit.qubits coins) ≡ accepted state
  pub is : s ≡ sheet circuit.qubits coins state

-- the run of a text with a meaning
meant_run : (text coins : List ℕ) (room : ℕ) (c : Circuit) → meaning text ≡ accepted c → run_of text coins room ≡ unless (leb (record_length c.qubits (count_measured c.ops)) room) 8 0 (run_circuit c coins)
unfolding run_of
meant_run text coins room c m = ap (λ (v : Verdict Circuit). then v (λ d. unless (leb (record_length d.qubits (count_measured d.ops)) room) 8 0 (run_circuit d coins))) m

pub accepted_run : (text coins : List ℕ) (room : ℕ) (s : Sheet) → run_of text coins room ≡ accepted s → AcceptedRun text coins s
unfolding run_of run_circuit
accepted_run text coins room s e =
    let m = then_accepted (meaning text) (λ c. unless (leb (record_length c.qubits (count_measured c.ops)) room) 8 0 (run_circuit c coins)) s e in
    let c = m.value in
    let u : run_circuit c coins ≡ accepted s = (unless_passed (leb (record_length c.qubits (count_measured c.ops)) room) 8 0 (run_circuit c coins) s m.later).1 in
    let r = then_accepted (run c.qubits 2 c.ops (begin c.qubits coins)) (λ f. accepted (sheet c.qubits coins f)) s u in
    let q : ◌≡◌ {A = Verdict Sheet} (accepted (sheet c.qubits coins r.value)) (accepted s) = r.later in
    record { circuit = c; meant = m.first; state = r.value; ran = r.first; is = (let z : sheet c.qubits coins r.value ≡ s = cc in sym z) }

-- its record had room
pub accepted_fits : (text coins : List ℕ) (room : ℕ) (s : Sheet) (c : Circuit) → run_of text coins room ≡ accepted s → meaning text ≡ accepted c → record_length c.qubits (count_measured c.ops) ≤ room
unfolding run_of
accepted_fits text coins room s c e m =
    let u = unless_passed (leb (record_length c.qubits (count_measured c.ops)) room) 8 0 (run_circuit c coins) s (sym (meant_run text coins room c m) ∙ e) in
    leb-true (record_length c.qubits (count_measured c.ops)) room u.0

-- and where it has, a text whose operations come to their end with these coins is accepted
pub run_accepts : (text coins : List ℕ) (room : ℕ) (c : Circuit) (e : State) → meaning text ≡ accepted c → record_length c.qubits (count_measured c.ops) ≤ room
    → run c.qubits 2 c.ops (begin c.qubits coins) ≡ accepted e → run_of text coins room ≡ accepted (sheet c.qubits coins e)
unfolding run_of run_circuit
run_accepts text coins room c e m l r =
    meant_run text coins room c m ∙ ap (λ (b : Bool). unless b 8 0 (run_circuit c coins)) (le-leb (record_length c.qubits (count_measured c.ops)) room l)
    ∙ ap (λ (v : Verdict State). then v (λ f. accepted (sheet c.qubits coins f))) r

module _ (text coins : List ℕ) (s : Sheet) (a : AcceptedRun text coins s) where
  -- after every operation the rows are properly paired: of every prefix of the operations
  pub prefix_paired : (before later : List Op) → a.circuit.ops ≡ before ++ later → Reached a.circuit.qubits 2 before (begin a.circuit.qubits coins)
  prefix_paired before later e =
      every_prefix a.circuit.qubits 2 before later (begin a.circuit.qubits coins) a.state
      (valid_front a.circuit.qubits before later (subst (AllValid a.circuit.qubits) e (parts text a.circuit a.meant).valid)) (start_paired a.circuit.qubits)
      (ap (λ (o : List Op). run a.circuit.qubits 2 o (begin a.circuit.qubits coins)) (sym e) ∙ a.ran)

  -- and so the three statements of request m hold of the rows there
  pub prefix_generators : (before later : List Op) (e : a.circuit.ops ≡ before ++ later) → Generators a.circuit.qubits (numbered a.circuit.qubits (prefix_paired before later e).state.rows)
  prefix_generators before later e = paired_generators a.circuit.qubits (prefix_paired before later e).state.rows (prefix_paired before later e).paired

  pub held : Held a.circuit.qubits (map mark a.state.outcomes) a.state.rows
  held =
      let p = parts text a.circuit a.meant in
      record {
        least = p.some_qubits;
        most = p.few_qubits;
        few = omega (arith, length-map a.state.outcomes mark, run_count a.circuit.qubits 2 a.circuit.ops (begin a.circuit.qubits coins) a.state a.ran, measured_few a.circuit.ops, p.few_operations);
        marked = outcomes_marked a.state.outcomes;
        paired = subst (Kept (Paired a.circuit.qubits)) a.ran (run_keeps a.circuit.qubits (Paired a.circuit.qubits) (pairing a.circuit.qubits) 2 a.circuit.ops (begin a.circuit.qubits coins) p.valid (start_paired a.circuit.qubits));
        clean = subst (Kept (Clean a.circuit.qubits)) a.ran (run_keeps a.circuit.qubits (Clean a.circuit.qubits) (cleaning a.circuit.qubits) 2 a.circuit.ops (begin a.circuit.qubits coins) p.valid (start_clean a.circuit.qubits));
      }

  -- the record that the run writes reads back as the same outcomes and rows, after any bytes
  pub reads_back : (before : List ℕ) → read_of (before ++ s.bytes)
      ≡ accepted (record { qubits = a.circuit.qubits; size = length s.bytes; marks = map mark a.state.outcomes; rows = a.state.rows })
  reads_back before =
      let b : s.bytes ≡ record_of a.circuit.qubits a.state.outcomes a.state.rows = ap (λ (u : Sheet). u.bytes) a.is in
      let z : length s.bytes ≡ record_length a.circuit.qubits (length (map mark a.state.outcomes)) = ap length b ∙ length-record a.circuit.qubits (map mark a.state.outcomes) a.state.rows in
      ap (λ (l : List ℕ). read_of (before ++ l)) b ∙ written_reads a.circuit.qubits (map mark a.state.outcomes) a.state.rows held before
      ∙ ap (λ (k : ℕ). accepted (record { qubits = a.circuit.qubits; size = k; marks = map mark a.state.outcomes; rows = a.state.rows })) (sym z)

-- the three statements of request m, of the record that a run writes, after any bytes
pub run_generators : (text coins : List ℕ) (room : ℕ) (s : Sheet) → run_of text coins room ≡ accepted s → (before : List ℕ) → Generators (qubits_in (before ++ s.bytes)) (record_row (before ++ s.bytes))
run_generators text coins room s e before = accepted_generators (before ++ s.bytes) _ (reads_back text coins s (accepted_run text coins room s e) before)
