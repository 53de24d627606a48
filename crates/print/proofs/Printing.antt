-- The walk over the lines of an accepted text, with the outcome lines put so far. Assumes nothing.
use mathlib.Core.List.{List, [], ◌∷◌, ◌++◌, map, append-nil, append_assoc}
use mathlib.Core.Path.{◌≡◌, refl, sym, ◌∙◌, ap, ap₂}
use Prim.Native.Nat.{ℕ, suc, ◌+◌, ◌*◌, ◌-◌, ◌≤◌, ◌<◌}
use native.Mathlib.Nat.{add-zero}
use native.Mathlib.Numerals.{add-one}
use native.Mathlib.Decide.{dec_lt}
use native.Mathlib.Omega.{arith}
use lib.ListN.{length, get_or, take, drop, length-append, length-drop}
use lib.Seq.{take_all}
use Rattle.limits.specs.Limits.{most_operations}
use Rattle.answers.specs.Verdict.{accepted}
use Rattle.clifford.specs.declared.Gate.{Gate}
use Rattle.clifford.specs.declared.After.{After}
use Rattle.clifford.specs.declared.Op.{Op}
use Rattle.clifford.specs.declared.Op.TheVariants.{Gate as apply, Measure as measure}
use Rattle.clifford.specs.declared.Outcome.{Outcome}
use Rattle.circuit.specs.Lines.{op_line, malformed}
use Rattle.circuit.specs.Parts.Reading.{Stands}
use Rattle.circuit.specs.Text.{operations, measures, count_measured}
use Rattle.circuit.proofs.Positions.{front}
use Rattle.circuit.proofs.Walk.{next_at, never_malformed, none_left, within_room}
use Rattle.lines.specs.declared.Lines.{Lines}
use Rattle.lines.specs.Decimal.{decimal}
use Rattle.lines.specs.Parts.Putting.{Puts}
use Rattle.lines.proofs.Digits.{decimal_few}
use Rattle.lines.proofs.Putting.{puts_none, puts_then, puts_as}
use Rattle.records.specs.Record.{outcome_of}
use Rattle.records.proofs.Lengths.{square_below}
use Rattle.walking.specs.Parts.Walk.{lines_of}
use Rattle.print_lines.specs.Line.{spaced, kind_word, value_word, outcome_line}
use Rattle.print_lines.specs.Rows.{parts_closed}
use Rattle.print_lines.proofs.Words.{kind_few, value_one}
use Rattle.print.specs.Printed.{outcome_lines}
use Rattle.print.specs.Parts.Sheets.{op_text, sheet_lines, Ready}

-- how long an outcome line is
pub spaced_last : (w : List ℕ) → length (spaced w []) ≡ length w + 1
spaced_last w = length-append w (10 ∷ [])

pub spaced_more : (w x : List ℕ) (xs : List (List ℕ)) → length (spaced w (x ∷ xs)) ≡ length w + 1 + length (spaced x xs)
spaced_more w x xs = length-append w (32 ∷ spaced x xs) ∙ omega arith

pub line_length : (line a : ℕ) (o : Outcome) → length (outcome_line line a o) ≡ length (decimal line) + length (decimal a) + length (kind_word o.random) + 5
line_length line a o =
    let d = decimal line in
    let q = decimal a in
    let k = kind_word o.random in
    let v = value_word o.value in
    omega (arith, spaced_more d q (k ∷ v ∷ []), spaced_more q k (v ∷ []), spaced_more k v [], spaced_last v, value_one o.value)

op_few : (line : ℕ) (op : Op) (o : Outcome) → length (op_text line op o) ≤ 51
op_few line (apply g) o = omega arith
op_few line (measure f a) o = omega (arith, line_length line a o, decimal_few line, decimal_few a, kind_few o.random)

-- one operation's line, and those behind it
op_first : (line : ℕ) (op : Op) (ops : List Op) (sheet : List ℕ) (k : ℕ) → k < length sheet
    → outcome_lines line (op ∷ ops) (map outcome_of (drop k sheet)) ≡ op_text line op (outcome_of (get_or sheet k 0)) ++ outcome_lines (suc line) ops (map outcome_of (drop (k + measures op) sheet))
op_first line (apply g) ops sheet k h = ap (λ (m : ℕ). outcome_lines (suc line) ops (map outcome_of (drop m sheet))) (sym (add-zero k))
op_first line (measure f a) ops sheet k h = ap (λ (s : List ℕ). outcome_lines line (measure f a ∷ ops) (map outcome_of s)) (front sheet k h)

-- the lines of the operations that stand before this position are put, and the rest of the record tells those behind it
pub record Printing (text : List ℕ) (body n : ℕ) (sheet : List ℕ) (before after : Lines) (at line k : ℕ) : Type 0 where
  pub ops : List Op
  pub room : ℕ
  pub left : operations n room line (drop at text) ≡ accepted ops
  pub done : List ℕ
  pub puts : Puts done before after
  pub so_far : outcome_lines 2 (lines_of n body text) (map outcome_of sheet) ≡ done ++ outcome_lines line ops (map outcome_of (drop k sheet))
  pub count : k + count_measured ops ≡ count_measured (lines_of n body text)
  pub size : after.at + 51 * length ops ≤ before.at + 51 * most_operations
  pub lines : line + length ops ≤ most_operations + 2

module _ (text : List ℕ) (body n : ℕ) (sheet : List ℕ) (before : Lines) (r : Ready text body n sheet) where
  pub print_begin : Printing text body n sheet before before body 2 0
  print_begin =
      let k = within_room n most_operations 2 (drop body text) (lines_of n body text) r.lines in
      record {
        ops = lines_of n body text;
        room = most_operations;
        left = r.lines;
        done = [];
        puts = puts_none before;
        so_far = refl;
        count = omega arith;
        size = omega (arith, k);
        lines = omega (arith, k);
      }

  -- a record holds rows, too
  rows_some : 1 ≤ (n + n) * (n + 1)
  rows_some = omega (arith, r.some_qubits)

  module _ (after : Lines) (at line k : ℕ) (w : Printing text body n sheet before after at line k) where
    pub print_mark : k < length sheet
    print_mark = omega (arith, w.count, r.room, rows_some)

    module _ (op : Op) (behind : ℕ) (s : Stands op_line text at op behind) where
      within : at < length text
      within = omega (arith, s.after, s.within)

      pub print_room : after.at + 51 ≤ before.at + 51 * most_operations
      print_room =
          let q = next_at n w.room line text at w.ops w.left op behind within s in
          omega (arith, ap length q.ops_is, w.size)

      -- one operation more
      print_on : (new : Lines) → Puts (op_text line op (outcome_of (get_or sheet k 0))) after new → Printing text body n sheet before new behind (line + 1) (k + measures op)
      print_on new p =
          let q = next_at n w.room line text at w.ops w.left op behind within s in
          let t = op_text line op (outcome_of (get_or sheet k 0)) in
          let u : length w.ops ≡ suc (length q.more) = ap length q.ops_is in
          rw (add-one line) (record {
            ops = q.more;
            room = q.left;
            left = q.goes_on;
            done = w.done ++ t;
            puts = puts_then w.puts p;
            so_far =
                w.so_far ∙ ap (λ (o : List Op). w.done ++ outcome_lines line o (map outcome_of (drop k sheet))) q.ops_is
                ∙ ap (λ (x : List ℕ). w.done ++ x) (op_first line op q.more sheet k print_mark)
                ∙ sym (append_assoc w.done t (outcome_lines (suc line) q.more (map outcome_of (drop (k + measures op) sheet))));
            count = omega (arith, w.count, ap count_measured q.ops_is);
            size = omega (arith, u, w.size, p.next_is, op_few line op (outcome_of (get_or sheet k 0)));
            lines = omega (arith, u, w.lines);
          })

    pub print_gate : (g : Gate) (behind : ℕ) → Stands op_line text at (apply g) behind → Printing text body n sheet before after behind (line + 1) k
    print_gate g behind s = rw add-zero at (print_on (apply g) behind s after (puts_none after))

    pub print_outcome :
        (f : After) (a behind : ℕ) → Stands op_line text at (measure f a) behind → (new : Lines) → Puts (outcome_line line a (outcome_of (get_or sheet k 0))) after new
        → Printing text body n sheet before new behind (line + 1) (k + 1)
    print_outcome f a behind s = print_on (measure f a) behind s

    module _ (e : op_line (drop at text) ≡ malformed) where
      past : length text ≤ at
      past = go (dec_lt at (length text))
        where
          go : Dec (at < length text) → length text ≤ at
          go (yes l) = absurd (never_malformed n w.room line text at w.ops w.left l e)
          go (no m) = omega arith

      ended : w.ops ≡ []
      ended = none_left n w.room line text at w.ops w.left past

      print_count : k ≡ count_measured (lines_of n body text)
      print_count = omega (arith, w.count, ap count_measured ended)

      pub print_rows : (n + n) * (n + 1) ≤ length (take (length sheet - k) (drop k sheet))
      print_rows = rw (take_all (length sheet - k) (drop k sheet) (omega (arith, length-drop k sheet))) (omega (arith, length-drop k sheet, print_count, r.room))

      pub print_small : after.at + ((n + n) * (n + 1) + (n + n)) ≤ before.at + 1000000
      print_small = omega (arith, w.size, square_below n r.few_qubits, r.few_qubits)

      pub print_end : (new : Lines) → Puts (parts_closed (n + 1) (take (length sheet - k) (drop k sheet)) (n + n)) after new → Puts (sheet_lines (lines_of n body text) n sheet) before new
      unfolding sheet_lines
      print_end new p =
          let rows = take (length sheet - k) (drop k sheet) in
          let e : rows ≡ drop k sheet = take_all (length sheet - k) (drop k sheet) (omega (arith, length-drop k sheet)) in
          let a : outcome_lines 2 (lines_of n body text) (map outcome_of sheet) ≡ w.done =
          w.so_far ∙ ap (λ (o : List Op). w.done ++ outcome_lines line o (map outcome_of (drop k sheet))) ended ∙ append-nil w.done in
          let b : parts_closed (n + 1) (drop (count_measured (lines_of n body text)) sheet) (n + n) ≡ parts_closed (n + 1) rows (n + n) =
          ap (λ (s : List ℕ). parts_closed (n + 1) s (n + n)) (ap (λ (m : ℕ). drop m sheet) (sym print_count) ∙ sym e) in
          puts_as (ap₂ ◌++◌ a b) (puts_then w.puts p)
