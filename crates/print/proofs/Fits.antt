-- How long a printed text can be, so that a buffer of the longest holds whatever is printed. Assumes nothing.
use mathlib.Core.Bool.{Bool, true, false, cond}
use mathlib.Core.List.{List, [], ◌∷◌, ◌++◌}
use mathlib.Core.Path.{◌≡◌, refl, ◌∙◌, ap}
use Rattle.std.specs.Prelude.{Result, Ok}
use Prim.Native.Nat.{ℕ, zero, suc, ◌+◌, ◌*◌, ◌/◌, ◌%◌, ◌^◌, ◌≤◌, ◌<◌}
use native.Mathlib.Nat.{mul-le-mul}
use native.Mathlib.Omega.{arith}
use borrow.Author.Tests.{lt-ltb, le-leb}
use lib.Dec.{ltb}
use lib.ListN.{length, length-append}
use Rattle.limits.specs.Limits.{most_qubits, most_operations}
use Rattle.answers.specs.declared.Refusal.{Refusal}
use Rattle.answers.specs.Verdict.{Verdict, accepted, refused, then, unless, within, counted}
use Rattle.answers.specs.Refusals.{Writes}
use Rattle.answers.proofs.Known.{one_answer}
use Rattle.answers.proofs.Numbered.{room_enough}
use Rattle.pauli.specs.Rows.{Row}
use Rattle.pauli.specs.Texts.{listed, row_text}
use Rattle.clifford.specs.declared.Op.{Op}
use Rattle.clifford.specs.declared.Op.TheVariants.{Gate as apply, Measure as measure}
use Rattle.clifford.specs.Tableau.{Rows}
use Rattle.clifford.specs.declared.Outcome.{Outcome}
use Rattle.clifford.specs.Run.{State, run, AllValid, begin}
use Rattle.circuit.specs.Text.{Circuit, meaning}
use Rattle.checking.proofs.Meant.{parts}
use Rattle.records.specs.Record.{joined}
use Rattle.records.proofs.Lengths.{length-row_text, length-joined}
use Rattle.lines.specs.Decimal.{digits_of, decimal}
use Rattle.lines.proofs.Digits.{decimal_few}
use Rattle.print_lines.specs.Line.{outcome_line, refused_word, refusal_line}
use Rattle.print_lines.proofs.Words.{kind_few}
use Rattle.print.specs.Printed.{longest_text, outcome_lines, row_line, row_lines, run_lines, or_refusal, printed, first_line, behind_first_line, too_long, shot_printed}
use Rattle.print.proofs.Printing.{spaced_last, spaced_more, line_length}

-- a number below 10 ^ (j + 1) has at most j + 1 digits
digits_within : (k j v : ℕ) → v < 10 ^ suc j → length (digits_of k v) ≤ suc j
unfolding digits_of
digits_within zero j v h = omega arith
digits_within (suc k) zero v h = rw (lt-ltb v 10 (omega arith)) (omega arith)
digits_within (suc k) (suc j) v h = go (ltb v 10) (digits_within k j (v / 10) (omega arith))
  where
    go : (b : Bool) → length (digits_of k (v / 10)) ≤ suc j → length (cond b ((48 + v) ∷ []) (digits_of k (v / 10) ++ ((48 + v % 10) ∷ []))) ≤ suc (suc j)
    go true w = omega arith
    go false w = omega (arith, length-append (digits_of k (v / 10)) ((48 + v % 10) ∷ []))

line_within : (n line a : ℕ) (o : Outcome) → n ≤ most_qubits → line < most_operations + 2 → a < n → length (outcome_line line a o) ≤ 18
line_within n line a o h l v =
    omega (arith, line_length line a o, digits_within 20 3 line (omega arith), digits_within 20 2 a (omega arith), kind_few o.random)

lines_within : (n line : ℕ) (ops : List Op) (outcomes : List Outcome) → n ≤ most_qubits → AllValid n ops → line + length ops ≤ most_operations + 2 → length (outcome_lines line ops outcomes) ≤ 18 * length ops
lines_within n line [] outcomes h v l = omega arith
lines_within n line (apply g ∷ ops) outcomes h v l = omega (arith, lines_within n (suc line) ops outcomes h v.1 (omega arith))
lines_within n line (measure f a ∷ ops) [] h v l = omega arith
lines_within n line (measure f a ∷ ops) (o ∷ outcomes) h v l =
    omega (arith, line_within n line a o h (omega arith) v.0, lines_within n (suc line) ops outcomes h v.1 (omega arith), length-append (outcome_line line a o) (outcome_lines (suc line) ops outcomes))

group_length : (n : ℕ) (f : ℕ → Row) → length (joined (listed (λ i. row_line n (f i)) n)) ≡ n * (n + 2)
group_length n f = length-joined (λ i. row_line n (f i)) (n + 2) n (λ i. length-append (row_text n (f i)) (10 ∷ []) ∙ omega (arith, length-row_text n (f i)))

rows_within : (n : ℕ) (t : Rows) → n ≤ most_qubits → length (row_lines n t) ≤ 2 * most_qubits * (most_qubits + 2)
unfolding row_lines
rows_within n t h =
    omega (
      arith,
      length-append (joined (listed (λ i. row_line n (t.destabilizer i)) n)) (joined (listed (λ i. row_line n (t.stabilizer i)) n)),
      group_length n t.destabilizer,
      group_length n t.stabilizer,
      mul-le-mul {n₁ = n} {m₁ = n + 2} {n₂ = most_qubits} {m₂ = most_qubits + 2} h (omega arith),
    )

refusal_within : (number place : ℕ) → length (refusal_line number place) ≤ 50
refusal_within number place =
    omega (arith, spaced_more refused_word (decimal number) (decimal place ∷ []), spaced_more (decimal number) (decimal place) [], spaced_last (decimal place), decimal_few number, decimal_few place)

run_within : (text : List ℕ) (c : Circuit) → meaning text ≡ accepted c → (v : Verdict State) → length (or_refusal (then v (λ e. accepted (run_lines c e)))) ≤ longest_text
run_within text c m (accepted e) =
    let p = parts text c m in
    omega (
      arith,
      length-append (outcome_lines 2 c.ops e.outcomes) (row_lines c.qubits e.rows),
      p.few_operations,
      lines_within c.qubits 2 c.ops e.outcomes p.few_qubits p.valid (omega (arith, p.few_operations)),
      rows_within c.qubits e.rows p.few_qubits,
    )
run_within text c m (refused number place) = omega (arith, refusal_within number place)

pub printed_within : (text coins : List ℕ) → length (printed text coins) ≤ longest_text
unfolding printed
printed_within text coins = go (meaning text) refl
  where
    go : (v : Verdict Circuit) → meaning text ≡ v → length (or_refusal (then v (λ c. then (run c.qubits 2 c.ops (begin c.qubits coins)) (λ e. accepted (run_lines c e))))) ≤ longest_text
    go (accepted c) e = run_within text c e (run c.qubits 2 c.ops (begin c.qubits coins))
    go (refused number place) e = omega (arith, refusal_within number place)

pub shot_within : (input : List ℕ) → length (shot_printed input) ≤ longest_text
unfolding shot_printed
shot_within input = go (ltb 60000 (length input))
  where
    go : (b : Bool) → length (cond b too_long (printed (behind_first_line input) (first_line input))) ≤ longest_text
    go true = omega arith
    go false = printed_within (behind_first_line input) (first_line input)

-- with that much room 8 is never given
pub print_has_room : (text coins : List ℕ) (room : ℕ) → longest_text ≤ room → (place : ℕ) → then (accepted (printed text coins)) (within room) ≡ refused 8 place → ⊥
print_has_room text coins room h = room_enough (accepted (printed text coins)) room tt (λ bytes e. let q : printed text coins ≡ bytes = cc in omega (arith, ap length q, printed_within text coins))

pub shot_has_room : (input : List ℕ) (room : ℕ) → longest_text ≤ room → (place : ℕ) → then (accepted (shot_printed input)) (within room) ≡ refused 8 place → ⊥
shot_has_room input room h = room_enough (accepted (shot_printed input)) room tt (λ bytes e. let q : shot_printed input ≡ bytes = cc in omega (arith, ap length q, shot_within input))

-- and `shot` answers how many bytes are printed
pub shot_answers : (input old : List ℕ) (r : Result ℕ Refusal) (new : List ℕ) → longest_text ≤ length old → Writes (accepted (shot_printed input)) old r new → r ≡ Ok (length (shot_printed input))
shot_answers input old r new h w =
    let text = shot_printed input in
    one_answer r (Ok (length text)) (w.answer ∙ ap (λ b. counted (unless b 8 0 (accepted text))) (le-leb (length text) (length old) (omega (arith, shot_within input, h))))
