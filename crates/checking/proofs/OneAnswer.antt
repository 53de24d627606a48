-- Two answers that a promise allows for one text are equal: of a line, of a pass over the text, and of the check. Assumes nothing.
use mathlib.Core.List.{List}
use mathlib.Core.Path.{◌≡◌, refl, sym, ◌∙◌, ap}
use Prim.Native.Nat.{ℕ, ◌≤◌}
use Rattle.std.specs.Prelude.{Option, None, Some, Result, Ok, Err}
use native.Mathlib.Omega.{arith}
use lib.ListN.{length, drop, length-drop}
use Rattle.answers.specs.Verdict.{Verdict, accepted, refused}
use Rattle.answers.specs.Refusals.{number_of, place_of, told}
use Rattle.answers.proofs.Known.{one_refusal, one_answer}
use Rattle.clifford.specs.declared.Op.{Op}
use Rattle.answers.specs.declared.Refusal.{Refusal}
use Rattle.checking.specs.declared.Scanned.{Scanned}
use Rattle.checking.specs.declared.Size.{Size}
use Rattle.circuit.specs.Lines.{Found, found, malformed, op_line}
use Rattle.circuit.specs.Text.{Circuit, meaning, count_measured}
use Rattle.circuit.specs.Parts.Reading.{ReadsAt}
use Rattle.checking.specs.Parts.Promises.{Scans}

-- a position is known by what stands behind it
same_place : (s : List ℕ) (a b : ℕ) → a ≤ length s → b ≤ length s → drop a s ≡ drop b s → a ≡ b
same_place s a b h k e = omega (arith, length-drop a s, length-drop b s, ap length e)

pub one_line : (s : List ℕ) (at : ℕ) (r q : Option (Op × ℕ)) → ReadsAt op_line s at r → ReadsAt op_line s at q → r ≡ q
one_line s at (Some (o, n)) (Some (p, m)) x y =
    let e : ◌≡◌ {A = Found Op} (found o (drop n s)) (found p (drop m s)) = sym x.reads ∙ y.reads in
    let f : o ≡ p = cc in
    let g : n ≡ m = same_place s n m x.within y.within (let d : drop n s ≡ drop m s = cc in d) in
    λ i. Some (f i, g i)
one_line s at (Some (o, n)) None x y = let e : ◌≡◌ {A = Found Op} (found o (drop n s)) malformed = sym x.reads ∙ y in cc
one_line s at None (Some (p, m)) x y = let e : ◌≡◌ {A = Found Op} malformed (found p (drop m s)) = sym x ∙ y.reads in cc
one_line s at None None x y = refl

refusals : {A : Type 0} (v : Verdict A) (a p b q : ℕ) → v ≡ refused a p → v ≡ refused b q → (a ≡ b) × (p ≡ q)
refusals v a p b q x y = (cc, cc)

pub one_scan : (s : List ℕ) (r q : Result Scanned Refusal) → Scans s r → Scans s q → r ≡ q
one_scan s (Ok r) (Ok q) x y =
    let c : x.circuit ≡ y.circuit = (let e : ◌≡◌ {A = Verdict Circuit} (accepted x.circuit) (accepted y.circuit) = sym x.meant ∙ y.meant in cc) in
    let a : r.qubits ≡ q.qubits = x.qubits_is ∙ ap (λ (d : Circuit). d.qubits) c ∙ sym y.qubits_is in
    let b : r.operations ≡ q.operations = x.operations_is ∙ ap (λ (d : Circuit). length d.ops) c ∙ sym y.operations_is in
    let d : r.measured ≡ q.measured = x.measured_is ∙ ap (λ (d : Circuit). count_measured d.ops) c ∙ sym y.measured_is in
    let f : ◌≡◌ {A = Found ℕ} (found r.qubits (drop r.body s)) (found q.qubits (drop q.body s)) = sym x.header_is ∙ y.header_is in
    let g : r.body ≡ q.body = same_place s r.body q.body x.within y.within (let d : drop r.body s ≡ drop q.body s = cc in d) in
    λ i. Ok (record { qubits = a i; operations = b i; measured = d i; body = g i })
one_scan s (Ok r) (Err q) x y = let e : ◌≡◌ {A = Verdict Circuit} (accepted x.circuit) (refused (number_of q) (place_of q)) = sym x.meant ∙ y in cc
one_scan s (Err r) (Ok q) x y = let e : ◌≡◌ {A = Verdict Circuit} (refused (number_of r) (place_of r)) (accepted y.circuit) = sym x ∙ y.meant in cc
one_scan s (Err r) (Err q) x y =
    let w = refusals (meaning s) (number_of r) (place_of r) (number_of q) (place_of q) x y in
    ap Err (one_refusal r q w.0 w.1)

pub one_check : (r q : Result Size Refusal) → told r ≡ told q → r ≡ q
one_check = one_answer
