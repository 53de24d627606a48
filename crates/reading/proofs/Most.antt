-- How many qubits an accepted record may have. Assumes nothing.
use mathlib.Core.Path.{◌≡◌, subst}
use mathlib.Core.List.{List}
use Prim.Native.Nat.{ℕ, ◌≤◌}
use Rattle.answers.specs.Verdict.{accepted}
use Rattle.limits.specs.Limits.{most_qubits}
use Rattle.records.specs.Reading.{Read, read_of}
use Rattle.records.proofs.Taken.{taken}

pub accepted_most : (s : List ℕ) (r : Read) → read_of s ≡ accepted r → r.qubits ≤ most_qubits
accepted_most s r e =
    let t = taken s r e in
    subst (λ (q : Read). q.qubits ≤ most_qubits) t.is t.ending.most
