-- The record of a run holds its lines: the outcomes by their characters, the rows end to end. Assumes nothing.
use mathlib.Core.List.{List, [], ◌∷◌, ◌++◌, map, append_assoc}
use mathlib.Core.Path.{◌≡◌, refl, sym, ◌∙◌, ap, ap₂}
use Prim.Native.Nat.{ℕ, suc, ◌+◌, ◌*◌}
use native.Mathlib.Omega.{arith}
use lib.ListN.{length, take, drop, length-map}
use lib.Seq.{drop-append-add, drop_at}
use Rattle.pauli.specs.Rows.{Row}
use Rattle.pauli.specs.Texts.{listed, row_text}
use Rattle.pauli.proofs.Listed.{listed_ext}
use Rattle.clifford.specs.declared.Op.{Op}
use Rattle.clifford.specs.declared.Op.TheVariants.{Gate as apply, Measure as measure}
use Rattle.clifford.specs.Tableau.{Rows}
use Rattle.clifford.specs.declared.Outcome.{Outcome}
use Rattle.circuit.specs.Text.{count_measured}
use Rattle.records.specs.Record.{mark, outcome_of, joined, rows_text}
use Rattle.records.proofs.Outcomes.{mark_back}
use Rattle.records.proofs.Joined.{listed_split, joined_append, block}
use Rattle.records.proofs.Lengths.{length-row_text, length-joined}
use Rattle.print_lines.specs.Line.{outcome_line}
use Rattle.print_lines.specs.Rows.{parts_closed}
use Rattle.print.specs.Printed.{outcome_lines, row_line, row_lines}
use Rattle.print.specs.Parts.Sheets.{sheet_lines}

-- a character tells its outcome
marks_lines : (line : ℕ) (ops : List Op) (outcomes : List Outcome) (rest : List ℕ) → count_measured ops ≡ length outcomes
    → outcome_lines line ops (map outcome_of (map mark outcomes ++ rest)) ≡ outcome_lines line ops outcomes
marks_lines line [] outcomes rest h = refl
marks_lines line (apply g ∷ ops) outcomes rest h = marks_lines (suc line) ops outcomes rest (omega arith)
marks_lines line (measure f a ∷ ops) [] rest h = absurd (omega arith)
marks_lines line (measure f a ∷ ops) (o ∷ outcomes) rest h =
    ap₂ (λ (p : Outcome) (s : List ℕ). outcome_line line a p ++ s) (mark_back o.random o.value) (marks_lines (suc line) ops outcomes rest (omega arith))

-- rows of one kind, which stand end to end
group_closed : (n : ℕ) (f : ℕ → Row) (g : ℕ → List ℕ) (rest : List ℕ) → ((i : ℕ) → g i ≡ take (n + 1) (drop (i * (n + 1)) (joined (listed (λ i. row_text n (f i)) n) ++ rest)))
    → joined (listed (λ i. g i ++ (10 ∷ [])) n) ≡ joined (listed (λ i. row_line n (f i)) n)
group_closed n f g rest h =
    ap joined (listed_ext (λ i. g i ++ (10 ∷ [])) (λ i. row_line n (f i)) n
    (λ i l. ap (λ (s : List ℕ). s ++ (10 ∷ [])) (h i ∙ block (λ i. row_text n (f i)) (n + 1) n i rest (λ i. length-row_text n (f i)) l)))

rows_closed : (n : ℕ) (t : Rows) (rest : List ℕ) → parts_closed (n + 1) (rows_text n t ++ rest) (n + n) ≡ row_lines n t
unfolding parts_closed rows_text row_lines
rows_closed n t rest =
    let d = joined (listed (λ i. row_text n (t.destabilizer i)) n) in
    let s = joined (listed (λ i. row_text n (t.stabilizer i)) n) in
    let k : length d ≡ n * (n + 1) = length-joined (λ i. row_text n (t.destabilizer i)) (n + 1) n (λ i. length-row_text n (t.destabilizer i)) in
    let a : d ++ s ++ rest ≡ d ++ (s ++ rest) = append_assoc d s rest in
    ap joined (listed_split (λ i. take (n + 1) (drop (i * (n + 1)) (d ++ s ++ rest)) ++ (10 ∷ [])) n n)
    ∙ joined_append (listed (λ i. take (n + 1) (drop (i * (n + 1)) (d ++ s ++ rest)) ++ (10 ∷ [])) n) (listed (λ i. take (n + 1) (drop ((n + i) * (n + 1)) (d ++ s ++ rest)) ++ (10 ∷ [])) n)
    ∙ ap₂ ◌++◌
    (group_closed n t.destabilizer (λ i. take (n + 1) (drop (i * (n + 1)) (d ++ s ++ rest))) (s ++ rest) (λ i. ap (λ (l : List ℕ). take (n + 1) (drop (i * (n + 1)) l)) a))
    (group_closed n t.stabilizer (λ i. take (n + 1) (drop ((n + i) * (n + 1)) (d ++ s ++ rest))) rest
    (λ i.
    let e : (n + i) * (n + 1) ≡ length d + i * (n + 1) = omega (arith, k) in
    ap₂ (λ (m : ℕ) (l : List ℕ). take (n + 1) (drop m l)) e a ∙ ap (take (n + 1)) (drop-append-add d (s ++ rest) (i * (n + 1)))))

-- outcome characters, then the rows, then anything
pub sheet_is : (ops : List Op) (n : ℕ) (outcomes : List Outcome) (t : Rows) (sheet rest : List ℕ) → count_measured ops ≡ length outcomes
    → sheet ≡ map mark outcomes ++ (rows_text n t ++ rest) → sheet_lines ops n sheet ≡ outcome_lines 2 ops outcomes ++ row_lines n t
unfolding sheet_lines
sheet_is ops n outcomes t sheet rest h e =
    let b : drop (count_measured ops) sheet ≡ rows_text n t ++ rest =
    ap (drop (count_measured ops)) e ∙ drop_at (map mark outcomes) (rows_text n t ++ rest) (count_measured ops) (length-map outcomes mark ∙ sym h) in
    ap₂ ◌++◌ (ap (λ (s : List ℕ). outcome_lines 2 ops (map outcome_of s)) e ∙ marks_lines 2 ops outcomes (rows_text n t ++ rest) h)
    (ap (λ (s : List ℕ). parts_closed (n + 1) s (n + n)) b ∙ rows_closed n t rest)
