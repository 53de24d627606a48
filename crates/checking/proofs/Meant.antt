-- The meaning of a whole text from its parts. Assumes nothing.
use mathlib.Core.Bool.{◌&&◌}
use mathlib.Core.List.{List}
use mathlib.Core.Path.{◌≡◌, refl, sym, ◌∙◌, ap}
use Prim.Native.Nat.{ℕ, ◌≤◌}
use native.Mathlib.Omega.{arith}
use borrow.Author.Tests.{le-leb, leb-true}
use lib.Dec.{leb}
use lib.ListN.{length, drop}
use Rattle.limits.specs.Limits.{most_qubits, most_operations}
use Rattle.answers.specs.Verdict.{Verdict, accepted, refused, then, unless}
use Rattle.answers.proofs.Accepting.{unless_passed, then_accepted}
use Rattle.clifford.specs.declared.Op.{Op}
use Rattle.clifford.specs.Run.{AllValid}
use Rattle.circuit.specs.Lines.{Found, found, malformed}
use Rattle.circuit.specs.Text.{Circuit, operations, header, meaning}
use Rattle.circuit.specs.Parts.Reading.{Stands}
use Rattle.checking.specs.declared.Counts.{Counts}
use Rattle.checking.specs.Parts.Promises.{added, Accepts}
use Rattle.circuit.proofs.Walk.{and_left, and_right, within_room, all_valid}

-- a text with its line 1 read
abbrev circuit_of : ℕ → List Op → Verdict Circuit
circuit_of n ops = accepted (record { qubits = n; ops = ops })

meant : Found ℕ → Verdict Circuit
meant r =
    elim r [
      | found n rest ↦ unless (leb 1 n && leb n most_qubits) 2 1 (then (operations n most_operations 2 rest) (circuit_of n))
      | malformed ↦ refused 1 1
    ]

pub meaning_read :
    (s rest : List ℕ) (n : ℕ)
    → header s ≡ found n rest → 1 ≤ n → n ≤ most_qubits → meaning s ≡ then (operations n most_operations 2 rest) (λ ops. accepted (record { qubits = n; ops = ops }))
unfolding meant
meaning_read s rest n h l m = ap meant h ∙ rw (le-leb 1 n l, le-leb n most_qubits m)

module _ (s : List ℕ) (n body : ℕ) (h : Stands header s 0 n body) where
  meaning_lines : 1 ≤ n → n ≤ most_qubits → meaning s ≡ then (operations n most_operations 2 (drop body s)) (circuit_of n)
  meaning_lines l m = meaning_read s (drop body s) n h.reads l m

  refused_lines : (v : Verdict (List Op)) (a p : ℕ) → refused a p ≡ then v (λ ops. accepted (added 0 0 ops)) → then v (circuit_of n) ≡ refused a p
  refused_lines (accepted ops) a p e = cc
  refused_lines (refused b q) a p e =
      let x : b ≡ a = cc in
      let y : q ≡ p = cc in
      λ i. refused (x i) (y i)

  pub lines_refused :
      (a p : ℕ) → 1 ≤ n → n ≤ most_qubits → refused a p ≡ then (operations n most_operations 2 (drop body s)) (λ ops. accepted (added 0 0 ops)) → meaning s ≡ refused a p
  lines_refused a p l m e = meaning_lines l m ∙ refused_lines (operations n most_operations 2 (drop body s)) a p e

  pub lines_counted :
      (count measured : ℕ) → 1 ≤ n → n ≤ most_qubits
      → accepted (record { operations = count; measured = measured }) ≡ then (operations n most_operations 2 (drop body s)) (λ ops. accepted (added 0 0 ops))
      → Accepts s n count measured body
  lines_counted count measured l m e =
      let w = then_accepted (operations n most_operations 2 (drop body s)) (λ ops. accepted (added 0 0 ops)) (record { operations = count; measured = measured }) (sym e) in
      let q : ◌≡◌ {A = Verdict Counts} (accepted (added 0 0 w.value)) (accepted (record { operations = count; measured = measured })) = w.later in
      let r : added 0 0 w.value ≡ record { operations = count; measured = measured } = cc in
      record {
        circuit = record { qubits = n; ops = w.value };
        meant = meaning_lines l m ∙ ap (λ (v : Verdict (List Op)). then v (circuit_of n)) w.first;
        qubits_is = refl;
        operations_is = omega (arith, ap (λ (x : Counts). x.operations) r);
        measured_is = omega (arith, ap (λ (x : Counts). x.measured) r);
        header_is = h.reads;
        within = h.within;
        lines = w.first;
      }

-- the parts of an accepted text
pub record Parts (s : List ℕ) (c : Circuit) : Type 0 where
  pub rest : List ℕ
  pub header_is : header s ≡ found c.qubits rest
  pub some_qubits : 1 ≤ c.qubits
  pub few_qubits : c.qubits ≤ most_qubits
  pub lines : operations c.qubits most_operations 2 rest ≡ accepted c.ops
  pub few_operations : length c.ops ≤ most_operations
  pub valid : AllValid c.qubits c.ops

read_parts : (s : List ℕ) (c : Circuit) (r : Found ℕ) → header s ≡ r → meaning s ≡ accepted c → Parts s c
unfolding meant
read_parts s c (found n rest) e a =
    let v : Verdict Circuit = then (operations n most_operations 2 rest) (circuit_of n) in
    let q : unless (leb 1 n && leb n most_qubits) 2 1 v ≡ accepted c = sym (ap meant e) ∙ a in
    let b = unless_passed (leb 1 n && leb n most_qubits) 2 1 v c q in
    let w = then_accepted (operations n most_operations 2 rest) (circuit_of n) c b.1 in
    let k : ◌≡◌ {A = Circuit} (record { qubits = n; ops = w.value }) c = (let z = w.later in cc) in
    let m : n ≡ c.qubits = ap (λ (d : Circuit). d.qubits) k in
    let o : w.value ≡ c.ops = ap (λ (d : Circuit). d.ops) k in
    let lines : operations c.qubits most_operations 2 rest ≡ accepted c.ops = ap (λ (j : ℕ). operations j most_operations 2 rest) (sym m) ∙ w.first ∙ ap accepted o in
    record {
      rest = rest;
      header_is = e ∙ ap (λ (j : ℕ). found j rest) m;
      some_qubits = omega (arith, m, leb-true 1 n (and_left (leb 1 n) (leb n most_qubits) b.0));
      few_qubits = omega (arith, m, leb-true n most_qubits (and_right (leb 1 n) (leb n most_qubits) b.0));
      lines = lines;
      few_operations = within_room c.qubits most_operations 2 rest c.ops lines;
      valid = all_valid c.qubits most_operations 2 rest c.ops lines;
    }
read_parts s c malformed e a =
    let q : ◌≡◌ {A = Verdict Circuit} (refused 1 1) (accepted c) = sym (ap meant e) ∙ a in
    absurd (let z : ◌≡◌ {A = ℕ} 0 1 = cc in omega arith)

pub parts : (s : List ℕ) (c : Circuit) → meaning s ≡ accepted c → Parts s c
parts s c a = read_parts s c (header s) refl a
