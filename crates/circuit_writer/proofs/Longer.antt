-- A text that goes on behind another text with a line means that text's operations, then the line's, then more; and before each of its operations a text can be cut
-- so. Assumes nothing.
use mathlib.Core.Path.{◌≡◌, refl, sym, ◌∙◌, ap, ap₂, subst}
use mathlib.Core.Bool.{true≢false}
use mathlib.Core.List.{List, [], ◌∷◌, ◌++◌, append_assoc}
use Prim.Native.Nat.{ℕ, ◌≤◌}
use native.Mathlib.Omega.{arith}
use lib.ListN.{length-append}
use Rattle.answers.specs.Verdict.{accepted}
use Rattle.clifford.specs.declared.Op.{Op}
use Rattle.clifford.specs.Run.{Valid, AllValid}
use Rattle.clifford.proofs.Running.{valid_front}
use Rattle.limits.specs.Limits.{most_operations}
use Rattle.circuit.specs.Lines.{found, op_line}
use Rattle.circuit.specs.Text.{Circuit, ends, header, meaning}
use Rattle.checking.proofs.Meant.{Parts, parts}
use Rattle.circuit.proofs.Readings.{same_found}
use Rattle.circuit_writer.specs.Writing.{line_text, header_text, lines_text, circuit_text}
use Rattle.circuit_writer.proofs.Written.{line_written, line_starts, valid_small, header_written, text_means}
use Rattle.circuit_writer.proofs.Recovered.{lines_read, text_recovered}

-- all operations are those in front, then more, whose lines are the rest of the text
record Front (n : ℕ) (front all : List Op) (rest : List ℕ) : Type 0 where
  more : List Op
  is : all ≡ front ++ more
  text : lines_text more ≡ rest
  valid : AllValid n more

lines_front : (n : ℕ) → n ≤ 1000 → (front all : List Op) (rest : List ℕ) → AllValid n front → AllValid n all → lines_text all ≡ lines_text front ++ rest → Front n front all rest
lines_front n k [] all rest v w e = record { more = all; is = refl; text = e; valid = w }
lines_front n k (op ∷ front) [] rest v w e = absurd (true≢false (ap ends (e ∙ append_assoc (line_text op) (lines_text front) rest) ∙ line_starts op (lines_text front ++ rest)))
lines_front n k (op ∷ front) (o ∷ all) rest v w e =
    let q : found op (lines_text front ++ rest) ≡ found o (lines_text all)
    = sym (line_written op (lines_text front ++ rest) (valid_small n op k v.0)) ∙ sym (ap op_line (e ∙ append_assoc (line_text op) (lines_text front) rest)) ∙ line_written o (lines_text all) (valid_small n o k w.0) in
    let r = same_found op o (lines_text front ++ rest) (lines_text all) q in
    let f = lines_front n k front all rest v.1 w.1 r.1 in
    record { more = f.more; is = ap₂ ◌∷◌ r.0 f.is; text = f.text; valid = f.valid }

pub record Longer (c d : Circuit) (op : Op) : Type 0 where
  pub qubits : d.qubits ≡ c.qubits
  pub more : List Op
  pub ops : d.ops ≡ c.ops ++ (op ∷ more)

pub longer_text : (short long : List ℕ) (c d : Circuit) (op : Op) (later : List ℕ) → meaning short ≡ accepted c → meaning long ≡ accepted d → Valid c.qubits op → long ≡ short ++ line_text op ++ later → Longer c d op
longer_text short long c d op later m k v e = record { qubits = n_is; more = second.more; ops = first.is ∙ ap (λ (l : List Op). c.ops ++ l) second.is }
  where
    p : Parts short c
    p = parts short c m

    q : Parts long d
    q = parts long d k

    behind : List ℕ
    behind = lines_text c.ops ++ (line_text op ++ later)

    long_is : long ≡ header_text c.qubits ++ behind
    long_is =
        e ∙ append_assoc short (line_text op) later ∙ ap (λ (s : List ℕ). s ++ (line_text op ++ later)) (text_recovered short c m)
        ∙ append_assoc (header_text c.qubits) (lines_text c.ops) (line_text op ++ later)

    headed : (d.qubits ≡ c.qubits) × (q.rest ≡ behind)
    headed = same_found c.qubits d.qubits behind q.rest (sym (ap header long_is ∙ header_written c.qubits behind (omega (arith, p.few_qubits))) ∙ q.header_is)

    n_is : d.qubits ≡ c.qubits
    n_is = headed.0

    small : c.qubits ≤ 1000
    small = omega (arith, p.few_qubits)

    first : Front c.qubits c.ops d.ops (line_text op ++ later)
    first = lines_front c.qubits small c.ops d.ops (line_text op ++ later) p.valid (subst (λ (i : ℕ). AllValid i d.ops) n_is q.valid) (sym (lines_read d.qubits most_operations 2 q.rest d.ops q.lines) ∙ headed.1)

    second : Front c.qubits (op ∷ []) first.more later
    second = lines_front c.qubits small (op ∷ []) first.more later (v, tt) first.valid (first.text ∙ sym (append_assoc (line_text op) [] later))

lines_append : (front later : List Op) → lines_text (front ++ later) ≡ lines_text front ++ lines_text later
lines_append [] later = refl
lines_append (op ∷ front) later = ap (λ (t : List ℕ). line_text op ++ t) (lines_append front later) ∙ sym (append_assoc (line_text op) (lines_text front) (lines_text later))

-- the text up to an operation's line
pub record Cut (long : List ℕ) (n : ℕ) (front : List Op) (op : Op) : Type 0 where
  pub short : List ℕ
  pub meant : meaning short ≡ accepted (record { qubits = n; ops = front })
  pub later : List ℕ
  pub is : long ≡ short ++ line_text op ++ later

pub cut_text : (long : List ℕ) (n : ℕ) (front : List Op) (op : Op) (more : List Op) → meaning long ≡ accepted (record { qubits = n; ops = front ++ (op ∷ more) }) → Cut long n front op
cut_text long n front op more m = record {
  short = circuit_text c;
  meant = text_means c p.some_qubits p.few_qubits (valid_front n front (op ∷ more) p.valid) (omega (arith, p.few_operations, length-append front (op ∷ more)));
  later = lines_text more;
  is = text_recovered long d m ∙ ap (λ (t : List ℕ). header_text n ++ t) (lines_append front (op ∷ more))
      ∙ sym (append_assoc (header_text n) (lines_text front) (line_text op ++ lines_text more)) ∙ sym (append_assoc (circuit_text c) (line_text op) (lines_text more));
}
  where
    c : Circuit
    c = record { qubits = n; ops = front }

    d : Circuit
    d = record { qubits = n; ops = front ++ (op ∷ more) }

    p : Parts long d
    p = parts long d m
