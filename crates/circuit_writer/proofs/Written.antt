-- What is written is read: the text of a circuit means that circuit. Assumes nothing.
use mathlib.Core.Bool.{Bool, true, false}
use mathlib.Core.List.{List, [], ◌∷◌, ◌++◌, append_assoc}
use mathlib.Core.Path.{◌≡◌, refl, ◌∙◌, ap}
use Prim.Native.Nat.{ℕ, zero, suc, ◌+◌, ◌*◌, ◌/◌, ◌%◌, ◌≤◌, ◌<◌}
use native.Mathlib.Omega.{arith}
use borrow.Author.Tests.{ltb-true, ltb-false, eqb-true, eqb-false, lt-ltb, ne_eqb}
use lib.Dec.{eqb, ltb}
use lib.ListN.{length}
use Rattle.limits.specs.Limits.{most_qubits, most_operations}
use Rattle.answers.specs.Verdict.{accepted}
use Rattle.clifford.specs.declared.One.{One}
use Rattle.clifford.specs.declared.One.TheVariants.{H, S, PauliX, PauliY, PauliZ}
use Rattle.clifford.specs.declared.Two.{Two}
use Rattle.clifford.specs.declared.Two.TheVariants.{Cx, Cz}
use Rattle.clifford.specs.declared.Gate.TheVariants.{One as one, Two as two}
use Rattle.clifford.specs.declared.After.TheVariants.{Keep, Reset}
use Rattle.clifford.specs.declared.Op.{Op}
use Rattle.clifford.specs.declared.Op.TheVariants.{Gate as apply, Measure as measure}
use Rattle.clifford.specs.Run.{Valid, AllValid}
use Rattle.circuit.specs.Lines.{found, is_digit, digits, number, with_one, with_two, operands, named, names, op_line}
use Rattle.circuit.specs.Text.{Circuit, all_below, apart, checked, ends, operations, header, meaning}
use Rattle.circuit.proofs.Digits.{digits_more, number_starts}
use Rattle.checking.proofs.Meant.{meaning_read}
use Rattle.circuit.proofs.Walk.{after_line, operations_suc, operations_end}
use Rattle.clifford.specs.Named.{one_letter}
use Rattle.lines.specs.Decimal.{decimal}
use Rattle.circuit_writer.specs.Writing.{two_letter, qubit_text, line_text, header_text, lines_text, circuit_text}
use Rattle.circuit_writer.specs.Parts.Small.{Small}
use Rattle.circuit_writer.proofs.Short.{decimal_one, decimal_two, decimal_three}

-- a number, up to a byte that is no digit
module _ (c : ℕ) (rest : List ℕ) (e : is_digit c ≡ false) where
  stop : (k v : ℕ) → digits k v (c ∷ rest) ≡ found v (c ∷ rest)
  stop zero v = refl
  stop (suc k) v = rw e

  one_digit : (v : ℕ) (z : Bool) → eqb v 0 ≡ z → v ≤ 9 → number ((48 + v) ∷ c ∷ rest) ≡ found v (c ∷ rest)
  one_digit v true z h = rw (eqb-true v 0 z)
  one_digit v false z h = number_starts v (c ∷ rest) h (eqb-false v 0 z) ∙ stop 2 v

  two_digits : (v : ℕ) → 10 ≤ v → v < 100 → number ((48 + v / 10) ∷ (48 + v % 10) ∷ c ∷ rest) ≡ found v (c ∷ rest)
  two_digits v l h =
      let q : 10 * (v / 10) + v % 10 ≡ v = omega arith in
      number_starts (v / 10) ((48 + v % 10) ∷ c ∷ rest) (omega arith) (λ z. omega arith)
      ∙ digits_more 1 (v / 10) (v % 10) (c ∷ rest) (omega arith)
      ∙ stop 1 (10 * (v / 10) + v % 10)
      ∙ ap (λ (k : ℕ). found k (c ∷ rest)) q

  three_digits : (v : ℕ) → 100 ≤ v → v < 1000 → number ((48 + v / 100) ∷ (48 + v / 10 % 10) ∷ (48 + v % 10) ∷ c ∷ rest) ≡ found v (c ∷ rest)
  three_digits v l h =
      let q : 10 * (10 * (v / 100) + v / 10 % 10) + v % 10 ≡ v = omega arith in
      number_starts (v / 100) ((48 + v / 10 % 10) ∷ (48 + v % 10) ∷ c ∷ rest) (omega arith) (λ z. omega arith)
      ∙ digits_more 1 (v / 100) (v / 10 % 10) ((48 + v % 10) ∷ c ∷ rest) (omega arith)
      ∙ digits_more 0 (10 * (v / 100) + v / 10 % 10) (v % 10) (c ∷ rest) (omega arith)
      ∙ ap (λ (k : ℕ). found k (c ∷ rest)) q

  by_size : (v : ℕ) (a b : Bool) → ltb v 10 ≡ a → ltb v 100 ≡ b → v < 1000 → number (decimal v ++ c ∷ rest) ≡ found v (c ∷ rest)
  by_size v true b p q h =
      let s : v < 10 = ltb-true v 10 p in
      ap (λ (t : List ℕ). number (t ++ c ∷ rest)) (decimal_one v s) ∙ one_digit v (eqb v 0) refl (omega arith)
  by_size v false true p q h =
      let s : 10 ≤ v = ltb-false v 10 p in
      let r : v < 100 = ltb-true v 100 q in
      ap (λ (t : List ℕ). number (t ++ c ∷ rest)) (decimal_two v s r) ∙ two_digits v s r
  by_size v false false p q h =
      let r : 100 ≤ v = ltb-false v 100 q in
      ap (λ (t : List ℕ). number (t ++ c ∷ rest)) (decimal_three v r h) ∙ three_digits v r h

  pub number_written : (v : ℕ) → v < 1000 → number (decimal v ++ c ∷ rest) ≡ found v (c ∷ rest)
  number_written v h = by_size v (ltb v 10) (ltb v 100) refl refl h

-- a line
one_name : (g : One) (t : List ℕ) → named names (one_letter g ∷ 32 ∷ t) ≡ operands (with_one (λ a. apply (one g a))) t
one_name H t = refl
one_name S t = refl
one_name PauliX t = refl
one_name PauliY t = refl
one_name PauliZ t = refl

two_name : (g : Two) (t : List ℕ) → named names (67 ∷ two_letter g ∷ 32 ∷ t) ≡ operands (with_two (λ a b. apply (two g a b))) t
two_name Cx t = refl
two_name Cz t = refl

one_shape : (a : ℕ) (rest : List ℕ) → (qubit_text a ++ 10 ∷ []) ++ rest ≡ 32 ∷ (decimal a ++ 10 ∷ rest)
one_shape a rest = simp append_assoc

two_shape : (a b : ℕ) (rest : List ℕ) → ((qubit_text a ++ qubit_text b) ++ 10 ∷ []) ++ rest ≡ 32 ∷ (decimal a ++ 32 ∷ (decimal b ++ 10 ∷ rest))
two_shape a b rest = simp append_assoc

one_read : (f : ℕ → Op) (a : ℕ) (s rest : List ℕ) → a < 1000 → named names s ≡ operands (with_one f) (decimal a ++ 10 ∷ rest) → op_line s ≡ found (f a) rest
one_read f a s rest h n = rw (n, number_written 10 rest refl a h)

two_read :
    (f : ℕ → ℕ → Op) (a b : ℕ) (s rest : List ℕ)
    → a < 1000 → b < 1000 → named names s ≡ operands (with_two f) (decimal a ++ 32 ∷ (decimal b ++ 10 ∷ rest)) → op_line s ≡ found (f a b) rest
two_read f a b s rest h k n = rw (n, number_written 32 (decimal b ++ 10 ∷ rest) refl a h, number_written 10 rest refl b k)

pub line_written : (op : Op) (rest : List ℕ) → Small op → op_line (line_text op ++ rest) ≡ found op rest
line_written (apply (one g a)) rest h =
    one_read (λ k. apply (one g k)) a (line_text (apply (one g a)) ++ rest) rest h
    (ap (λ (t : List ℕ). named names (one_letter g ∷ t)) (one_shape a rest) ∙ one_name g (decimal a ++ 10 ∷ rest))
line_written (apply (two g a b)) rest h =
    two_read (λ k l. apply (two g k l)) a b (line_text (apply (two g a b)) ++ rest) rest h.0 h.1
    (ap (λ (t : List ℕ). named names (67 ∷ two_letter g ∷ t)) (two_shape a b rest) ∙ two_name g (decimal a ++ 32 ∷ (decimal b ++ 10 ∷ rest)))
line_written (measure Keep a) rest h =
    one_read (measure Keep) a (line_text (measure Keep a) ++ rest) rest h (ap (λ (t : List ℕ). named names (77 ∷ t)) (one_shape a rest))
line_written (measure Reset a) rest h =
    one_read (measure Reset) a (line_text (measure Reset a) ++ rest) rest h (ap (λ (t : List ℕ). named names (77 ∷ 82 ∷ t)) (one_shape a rest))

-- the lines
pub line_starts : (op : Op) (rest : List ℕ) → ends (line_text op ++ rest) ≡ false
line_starts (apply (one g a)) rest = refl
line_starts (apply (two g a b)) rest = refl
line_starts (measure Keep a) rest = refl
line_starts (measure Reset a) rest = refl

pub valid_small : (n : ℕ) (op : Op) → n ≤ 1000 → Valid n op → Small op
valid_small n (apply (one g a)) h v = omega arith
valid_small n (apply (two g a b)) h v = (omega (arith, v.0), omega (arith, v.1))
valid_small n (measure f a) h v = omega arith

valid_below : (n : ℕ) (op : Op) → Valid n op → all_below n op ≡ true
valid_below n (apply (one g a)) v = lt-ltb a n v
valid_below n (apply (two g a b)) v = rw (lt-ltb a n v.0, lt-ltb b n v.1)
valid_below n (measure f a) v = lt-ltb a n v

valid_apart : (n : ℕ) (op : Op) → Valid n op → apart op ≡ true
valid_apart n (apply (one g a)) v = refl
valid_apart n (apply (two g a b)) v = rw (ne_eqb a b v.2)
valid_apart n (measure f a) v = refl

valid_checked : (n line : ℕ) (op : Op) → Valid n op → checked n line op ≡ accepted op
valid_checked n line op v = rw (valid_below n op v, valid_apart n op v)

pub lines_written :
    (n : ℕ) → n ≤ 1000 → (room line : ℕ) (ops : List Op) → AllValid n ops → length ops ≤ room → operations n room line (lines_text ops) ≡ accepted ops
unfolding after_line
lines_written n k room line [] v h = operations_end n room line [] refl
lines_written n k zero line (op ∷ ops) v h = absurd (omega arith)
lines_written n k (suc room) line (op ∷ ops) v h =
    operations_suc n room line (line_text op ++ lines_text ops) (found op (lines_text ops)) (line_starts op (lines_text ops))
    (line_written op (lines_text ops) (valid_small n op k v.0))
    ∙ rw (valid_checked n line op v.0, lines_written n k room (suc line) ops v.1 (omega arith))

-- the whole text
pub header_written : (n : ℕ) (rest : List ℕ) → n < 1000 → header (header_text n ++ rest) ≡ found n rest
header_written n rest h = ap (λ (t : List ℕ). header (81 ∷ t)) (one_shape n rest) ∙ rw (number_written 10 rest refl n h)

-- for n from 1 to the limit, and at most as many valid operations as there may be
pub text_means : (c : Circuit) → 1 ≤ c.qubits → c.qubits ≤ most_qubits → AllValid c.qubits c.ops → length c.ops ≤ most_operations → meaning (circuit_text c) ≡ accepted c
text_means c l m v h =
    meaning_read (circuit_text c) (lines_text c.ops) c.qubits (header_written c.qubits (lines_text c.ops) (omega arith)) l m
    ∙ rw (lines_written c.qubits (omega arith) most_operations 2 c.ops v h)
