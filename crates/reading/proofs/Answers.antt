-- What reading gives in each case that the code tells apart. Assumes nothing.
use mathlib.Core.Path.{◌≡◌, refl, sym, ◌∙◌, ap, ap₂, subst}
use mathlib.Core.Bool.{Bool, true, false, not, cond}
use mathlib.Core.List.{List, ◌++◌}
use Prim.Native.Nat.{ℕ, zero, suc, ◌+◌, ◌-◌, ◌*◌, ◌/◌, ◌%◌, ◌≤◌, ◌<◌}
use native.Mathlib.Omega.{arith}
use lib.Dec.{ltb}
use lib.ListN.{length, get_or, take, drop, length-drop}
use lib.Seq.{drop-drop, length-take-le, take-add}
use borrow.Author.Tests.{lt-ltb, le-ltb}
use Rattle.std.specs.Prelude.{Option, Some, None, Result, Err}
use Rattle.answers.specs.declared.Refusal.{Refusal}
use Rattle.answers.specs.declared.Refusal.TheVariants.{NoRecord}
use Rattle.reading.specs.Parts.Finding.{Finds}
use Rattle.std.proofs.lemmas.List.{take-take, drop-take, get_or-take}
use Rattle.limits.specs.Limits.{most_qubits}
use Rattle.answers.specs.First.{lowest}
use Rattle.answers.specs.Verdict.{Verdict, accepted, refused, unless, unless_at}
use Rattle.pauli.specs.Texts.{spelled}
use Rattle.clifford.specs.Tableau.{blank}
use Rattle.packing.specs.View.{row_count, row_at, rows_from, rows_of}
use Rattle.packing.proofs.Views.{all_rows}
use Rattle.records.specs.Record.{to_rows}
use Rattle.records.specs.Reading.{Read, read_of, reading, ends_in_record, second_distance, qubits_in, outcome_count, last_record, byte_fits, first_bad, first_wrong, row_in, rows_in}
use Rattle.records.proofs.Ending.{ending}
use Rattle.read_rows.specs.Parts.Texts.{text_of}
use Rattle.read_rows.specs.Parts.Loading.{in_record, Loaded}
use Rattle.read_rows.proofs.Texts.{row_inside}
use Rattle.reading.specs.declared.Last.{Last}
use Rattle.reading.specs.Answer.{last_of, read_at, Within}

-- ---- places of rows in a record

placed_low : (n i : ℕ) → i < most_qubits → in_record n (0 + i) ≡ i
placed_low n i h =
    let q : (0 + i) / most_qubits ≡ 0 = omega arith in
    let r : (0 + i) % most_qubits ≡ i = omega arith in
    let z : n * ((0 + i) / most_qubits) ≡ n * 0 = ap (λ (k : ℕ). n * k) q in
    omega arith

placed_high : (n i : ℕ) → i < most_qubits → in_record n (most_qubits + i) ≡ n + i
placed_high n i h =
    let q : (most_qubits + i) / most_qubits ≡ 1 = omega arith in
    let r : (most_qubits + i) % most_qubits ≡ i = omega arith in
    let z : n * ((most_qubits + i) / most_qubits) ≡ n * 1 = ap (λ (k : ℕ). n * k) q in
    omega arith

-- ---- the last record

abbrev last_in : List ℕ → Last
last_in s = record { start = length s - second_distance s; outcomes = outcome_count s; qubits = qubits_in s }

pub no_record : (s : List ℕ) → None ≡ last_of s → read_of s ≡ refused 9 0
unfolding read_of
no_record s e = go (ends_in_record s) refl e
  where
    go : (b : Bool) → ends_in_record s ≡ b → None ≡ cond b (Some (last_in s)) None → unless (ends_in_record s) 9 0 (reading (qubits_in s) (outcome_count s) (last_record s)) ≡ refused 9 0
    go true u f = absurd (let z : ◌≡◌ {A = ℕ} 0 1 = cc in omega arith)
    go false u f = ap (λ b. unless b 9 0 (reading (qubits_in s) (outcome_count s) (last_record s))) u

pub finds_none : (s : List ℕ) (r : Result Last Refusal) (w : List ℕ) → r ≡ Err NoRecord → None ≡ last_of s → Finds s r w
finds_none s r w e n = subst (λ (q : Result Last Refusal). Finds s q w) (sym e) (record { answer = sym (no_record s n); besides = tt })

-- a record that stands there, within the bytes
pub record Stands (s : List ℕ) (l : Last) : Type 0 where
  pub verdict : read_of s ≡ reading l.qubits l.outcomes (drop l.start s)
  pub whole : l.start + l.outcomes + (2 * (l.qubits * (l.qubits + 1)) + 12) ≡ length s
  pub within : Within s l

pub stands : (s : List ℕ) (l : Last) → Some l ≡ last_of s → Stands s l
unfolding read_of last_record
stands s l e = go (ends_in_record s) refl e
  where
    made : ends_in_record s ≡ true → Stands s (last_in s)
    made u =
        let f = ending s u in
        record {
          verdict = ap (λ b. unless b 9 0 (reading (qubits_in s) (outcome_count s) (last_record s))) u;
          whole = omega (arith, f.first, f.above, f.within);
          within = record { inside = omega (arith, f.above, f.within); few = omega (arith, f.above, f.few); least = f.least; most = f.most };
        }

    go : (b : Bool) → ends_in_record s ≡ b → Some l ≡ cond b (Some (last_in s)) None → Stands s l
    go true u f =
        let q : last_in s ≡ l = cc in
        subst (Stands s) q (made u)
    go false u f = absurd (let z : ◌≡◌ {A = ℕ} 0 1 = cc in omega arith)

-- ---- the verdict

lowest_same : (f g : ℕ → Bool) (m : ℕ) → ((k : ℕ) → k < m → f k ≡ g k) → lowest f m ≡ lowest g m
lowest_same f g zero h = refl
lowest_same f g (suc m) h =
    ap₂ (λ (o : Option ℕ) (b : Bool). elim o [ Some p ↦ Some p | None ↦ cond b (Some m) None ]) (lowest_same f g m (λ k l. h k (omega arith))) (h m (omega arith))

-- a part of a part
part_of_part : (a b k : ℕ) (s : List ℕ) → b + a ≤ k → take a (drop b (take k s)) ≡ take a (drop b s)
part_of_part a b k s h =
    let e : k ≡ b + (k - b) = omega arith in
    ap (λ (m : ℕ). take a (drop b (take m s))) e ∙ ap (take a) (drop-take b (k - b) s) ∙ take-take a (k - b) (drop b s) (omega arith)

module _ (s : List ℕ) (l : Last) (st : Stands s l) where
  abbrev n : ℕ
  n = l.qubits

  abbrev count : ℕ
  count = l.outcomes

  abbrev last : List ℕ
  last = drop l.start s

  -- the outcomes and the rows, as the code takes them
  abbrev first : ℕ
  first = l.start + count

  abbrev marks : List ℕ
  marks = take (first - l.start) last

  abbrev texts : List ℕ
  texts = take (length s - 12 - first) (drop first s)

  mark_count : length marks ≡ count
  mark_count = length-take-le (first - l.start) last (omega (arith, length-drop l.start s, st.within.inside)) ∙ omega arith

  abbrev size : ℕ
  size = count + 2 * (n * (n + 1))

  whole : marks ++ texts ≡ take size last
  whole =
      let a : first - l.start ≡ count = omega arith in
      let b : length s - 12 - first ≡ 2 * (n * (n + 1)) = omega (arith, st.whole) in
      ap₂ (λ (x y : List ℕ). x ++ y) (ap (λ (k : ℕ). take k last) a) (ap₂ (λ (k : ℕ) (x : List ℕ). take k x) b (sym (drop-drop count l.start s))) ∙ sym (take-add count (2 * (n * (n + 1))) last)

  same_bad : first_bad n (length marks) (marks ++ texts) ≡ first_bad n count last
  unfolding first_bad
  same_bad =
      ap₂ (λ (c : ℕ) (r : List ℕ). lowest (λ k. not (byte_fits n c k (get_or r k 0))) (c + 2 * (n * (n + 1)))) mark_count whole
      ∙ lowest_same _ _ size (λ k h. ap (λ (b : ℕ). not (byte_fits n count k b)) (get_or-take size last k 0 h))

  abbrev after_bytes : Verdict Read
  after_bytes = unless_at 11 (first_wrong n (rows_in n count last)) (accepted (record { qubits = n; size = to_rows n + count; marks = take count last; rows = rows_in n count last }))

  pub bad_byte : (p : ℕ) → Some p ≡ first_bad n (length marks) (marks ++ texts) → read_of s ≡ refused 10 p
  bad_byte p e = st.verdict ∙ ap (λ o. unless_at 10 o after_bytes) (sym (e ∙ same_bad))

  module _ (e : None ≡ first_bad n (length marks) (marks ++ texts)) (w : List ℕ) (held : Loaded texts n w) where
    -- row k of the 2n, and its number
    same_row : (k t : ℕ) → k < n + n → t < row_count → t % most_qubits < n → in_record n t ≡ k → row_in n count last k ≡ row_at n w t
    unfolding row_in
    same_row k t v h m q =
        let r : first + k * (n + 1) ≡ l.start + (count + k * (n + 1)) = omega arith in
        ap (λ (x : List ℕ). spelled (take (n + 1) x)) (drop-drop (count + k * (n + 1)) l.start s ∙ ap (λ (m : ℕ). drop m s) (sym r) ∙ sym (drop-drop (k * (n + 1)) first s))
        ∙ ap spelled (sym (part_of_part (n + 1) (k * (n + 1)) (length s - 12 - first) (drop first s) (omega (arith, row_inside n k v, st.whole))))
        ∙ ap (λ (m : ℕ). spelled (text_of texts n m)) (sym q) ∙ sym (held.rows t h m)

    same_rows : rows_in n count last ≡ rows_of n w
    unfolding rows_in
    same_rows = λ k. record { destabilizer = λ i. low i k; stabilizer = λ i. high i k }
      where
        low : (i : ℕ) → cond (ltb i n) (row_in n count last i) blank ≡ rows_from n 0 w i
        low i = sym (all_rows n 0 w (λ i. cond (ltb i n) (row_in n count last i) blank)
            (λ i b. sym (same_row i (0 + i) (omega arith) (omega (arith, st.within.most)) (omega (arith, st.within.most)) (placed_low n i (omega (arith, st.within.most)))) ∙ sym (ap (λ c. cond c (row_in n count last i) blank) (lt-ltb i n b)))
            (λ i b. ap (λ c. cond c (row_in n count last i) blank) (le-ltb i n b)) i)

        high : (i : ℕ) → cond (ltb i n) (row_in n count last (n + i)) blank ≡ rows_from n most_qubits w i
        high i = sym (all_rows n most_qubits w (λ i. cond (ltb i n) (row_in n count last (n + i)) blank)
            (λ i b. sym (same_row (n + i) (most_qubits + i) (omega arith) (omega (arith, st.within.most)) (omega (arith, st.within.most)) (placed_high n i (omega (arith, st.within.most)))) ∙ sym (ap (λ c. cond c (row_in n count last (n + i)) blank) (lt-ltb i n b)))
            (λ i b. ap (λ c. cond c (row_in n count last (n + i)) blank) (le-ltb i n b)) i)

    abbrev found : Verdict Read
    found = accepted (record { qubits = n; size = to_rows n + count; marks = take count last; rows = rows_of n w })

    loaded : read_of s ≡ unless_at 11 (first_wrong n (rows_of n w)) found
    loaded =
        st.verdict ∙ ap (λ o. unless_at 10 o after_bytes) (sym (e ∙ same_bad))
        ∙ ap (λ r. unless_at 11 (first_wrong n r) (accepted (record { qubits = n; size = to_rows n + count; marks = take count last; rows = r }))) same_rows

    pub not_paired : (q : ℕ) → Some q ≡ first_wrong n (rows_of n w) → read_of s ≡ refused 11 q
    not_paired q u = loaded ∙ ap (λ o. unless_at 11 o found) (sym u)

    pub accepts : None ≡ first_wrong n (rows_of n w) → accepted (read_at s w l) ≡ read_of s
    accepts u =
        let v : to_rows n + count ≡ length s - l.start = omega (arith, st.whole) in
        sym (loaded ∙ ap (λ o. unless_at 11 o found) (sym u) ∙ ap (λ (m : ℕ). accepted (record { qubits = n; size = m; marks = take count last; rows = rows_of n w })) v)
