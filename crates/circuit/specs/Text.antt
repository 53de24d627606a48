-- The meaning of a circuit text: n and a list of operations, or its one refusal, 1 to 6 in the order of document 01. Assumes nothing.
use Rattle.std.specs.Prelude.{Bool, true, false, ◌&&◌, not, List, [], ◌∷◌, ℕ, zero, suc, ◌+◌, eqb, leb, ltb}
use Rattle.std.specs.Prelude.{None, Some}
use Rattle.answers.specs.Verdict.{Verdict, accepted, refused, then, unless}
use Rattle.clifford.specs.declared.Gate.TheVariants.{One as one, Two as two}
use Rattle.clifford.specs.declared.Op.{Op}
use Rattle.clifford.specs.declared.Op.TheVariants.{Gate as apply, Measure as measure}
use Rattle.limits.specs.Limits.{most_qubits, most_operations}
use Rattle.circuit.specs.Lines.{Found, found, malformed, then_read, strip, closed_by, end_byte, number, op_line}

pub record Circuit : Type 0 where
  pub qubits : ℕ
  pub ops : List Op

-- 4: every qubit is below n
abbrev pub all_below : ℕ → Op → Bool
all_below n (apply (one g a)) = ltb a n
all_below n (apply (two g a b)) = ltb a n && ltb b n
all_below n (measure f a) = ltb a n

-- 5: no qubit is named twice
abbrev pub apart : Op → Bool
apart (apply (one g a)) = true
apart (apply (two g a b)) = not (eqb a b)
apart (measure f a) = true

-- in a line 3, 4, 5
abbrev pub checked : ℕ → ℕ → Op → Verdict Op
checked n line op = unless (all_below n op) 4 line (unless (apart op) 5 line (accepted op))

-- the text ends here, or it does not
abbrev pub ends : List ℕ → Bool
ends [] = true
ends (c ∷ s) = false

-- the lines in order, the next of them this one, with room for so many operations more; 6: bytes remain
abbrev pub operations : ℕ → ℕ → ℕ → List ℕ → Verdict (List Op)
operations n zero line s = unless (ends s) 6 line (accepted [])
operations n (suc room) line s =
    elim (ends s) [
      | true ↦ accepted []
      | false ↦ elim (op_line s) [
        | found op rest ↦ then (checked n line op) (λ _. then (operations n room (suc line) rest) (λ ops. accepted (op ∷ ops)))
        | malformed ↦ refused 3 line
      ]
    ]

-- line 1 is `Q n` with its end byte: 1, then 2
abbrev pub header : List ℕ → Found ℕ
header s = elim (strip (81 ∷ 32 ∷ []) s) [ Some rest ↦ then_read (number rest) (closed_by (end_byte ∷ [])) | None ↦ malformed ]

abbrev pub meaning : List ℕ → Verdict Circuit
meaning s =
    elim (header s) [
      | found n rest ↦ unless (leb 1 n && leb n most_qubits) 2 1 (then (operations n most_operations 2 rest) (λ ops. accepted (record { qubits = n; ops = ops })))
      | malformed ↦ refused 1 1
    ]

-- 1 for a measurement, 0 for a gate
abbrev pub measures : Op → ℕ
measures (apply g) = 0
measures (measure f a) = 1

abbrev pub count_measured : List Op → ℕ
count_measured [] = 0
count_measured (op ∷ ops) = measures op + count_measured ops
