-- A text that is refused is refused with a number from 1 to 6. Assumes nothing.
use mathlib.Core.Bool.{Bool, true, false, ◌&&◌}
use mathlib.Core.List.{List, [], ◌∷◌}
use Prim.Native.Nat.{ℕ, zero, suc, ◌≤◌}
use native.Mathlib.Omega.{arith}
use lib.Dec.{leb}
use Rattle.answers.specs.Verdict.{accepted, refused, then, unless}
use Rattle.answers.proofs.Numbered.{RefusedBy, by_then, by_unless}
use Rattle.limits.specs.Limits.{most_operations, most_qubits}
use Rattle.clifford.specs.declared.Op.{Op}
use Rattle.circuit.specs.Lines.{Found, found, malformed, op_line}
use Rattle.circuit.specs.Text.{Circuit, all_below, apart, checked, ends, operations, header, meaning}

abbrev pub ByText : ℕ → Type 0
ByText m = (1 ≤ m) × (m ≤ 6)

line_numbered : (n line : ℕ) (op : Op) → RefusedBy ByText (checked n line op)
line_numbered n line op = by_unless ByText (all_below n op) 4 line _ (omega arith) (by_unless ByText (apart op) 5 line (accepted op) (omega arith) tt)

lines_numbered : (n room line : ℕ) (s : List ℕ) → RefusedBy ByText (operations n room line s)
lines_numbered n zero line s = by_unless ByText (ends s) 6 line (accepted []) (omega arith) tt
lines_numbered n (suc room) line s = go (lines_numbered n room (suc line)) (ends s) (op_line s)
  where
    go : ((rest : List ℕ) → RefusedBy ByText (operations n room (suc line) rest)) → (b : Bool) (f : Found Op)
        → RefusedBy {A = List Op} ByText (elim b [
          | true ↦ accepted []
          | false ↦ elim f [
            | found op rest ↦ then (checked n line op) (λ _. then (operations n room (suc line) rest) (λ ops. accepted (op ∷ ops)))
            | malformed ↦ refused 3 line
          ]
        ])
    go ih true f = tt
    go ih false (found op rest) =
        by_then ByText (checked n line op) _ (line_numbered n line op) (λ p. by_then ByText (operations n room (suc line) rest) (λ ops. accepted (op ∷ ops)) (ih rest) (λ ops. tt))
    go ih false malformed = omega arith

pub meaning_numbered : (s : List ℕ) → RefusedBy ByText (meaning s)
meaning_numbered s = go (header s)
  where
    go : (f : Found ℕ)
        → RefusedBy {A = Circuit} ByText (elim f [
          | found n rest ↦ unless (leb 1 n && leb n most_qubits) 2 1 (then (operations n most_operations 2 rest) (λ ops. accepted (record { qubits = n; ops = ops })))
          | malformed ↦ refused 1 1
        ])
    go (found n rest) =
        by_unless ByText (leb 1 n && leb n most_qubits) 2 1 _ (omega arith)
        (by_then ByText (operations n most_operations 2 rest) (λ ops. accepted (record { qubits = n; ops = ops })) (lines_numbered n most_operations 2 rest) (λ ops. tt))
    go malformed = omega arith
