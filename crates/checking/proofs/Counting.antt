-- The pass over the operation lines: each line is refused or passed, and what was counted so far is the start of the whole count. Assumes nothing.
use mathlib.Core.Bool.{true, false}
use mathlib.Core.List.{List, ◌∷◌}
use mathlib.Core.Path.{◌≡◌, refl, sym, ◌∙◌, ap}
use Prim.Native.Nat.{ℕ, suc, ◌+◌, ◌-◌, ◌≤◌, ◌<◌}
use native.Mathlib.Omega.{arith}
use lib.ListN.{length, drop}
use Rattle.limits.specs.Limits.{most_operations}
use Rattle.answers.specs.Verdict.{Verdict, accepted, refused, then}
use Rattle.clifford.specs.declared.Op.{Op}
use Rattle.circuit.specs.Lines.{Found, found, malformed, op_line}
use Rattle.circuit.specs.Text.{checked, ends, operations, measures, count_measured}
use Rattle.checking.specs.declared.Counts.{Counts}
use Rattle.checking.specs.Parts.Promises.{line_verdict, Passes, added}
use Rattle.circuit.proofs.Positions.{front, past}
use Rattle.circuit.proofs.Walk.{measures_one, after_line, operations_suc, operations_zero, operations_end}

ends_not : (s : List ℕ) (at : ℕ) → at < length s → ends (drop at s) ≡ false
ends_not s at h = rw (front s at h)

ends_past : (s : List ℕ) (at : ℕ) → length s ≤ at → ends (drop at s) ≡ true
ends_past s at h = rw (past s at h)

-- a refused line refuses the text
refused_after : (n room line a p : ℕ) (r : Found Op) → line_verdict n line r ≡ refused a p → after_line n room line r ≡ refused a p
unfolding after_line
refused_after n room line a p (found op rest) e = rw e
refused_after n room line a p malformed e =
    let x : 3 ≡ a = cc in
    let y : line ≡ p = cc in
    λ i. refused (x i) (y i)

-- a passed line is the first of the operations
passed_after :
    (n room line : ℕ) (op : Op) (rest : List ℕ)
    → checked n line op ≡ accepted op → after_line n room line (found op rest) ≡ then (operations n room (suc line) rest) (λ ops. accepted (op ∷ ops))
unfolding after_line
passed_after n room line op rest e = rw e

pub then_then : {A B C : Type 0} (v : Verdict A) (f : A → Verdict B) (g : B → Verdict C) → then (then v f) g ≡ then v (λ a. then (f a) g)
then_then (accepted a) f g = refl
then_then (refused m p) f g = refl

added_one : (count measured : ℕ) (op : Op) (ops : List Op) → added count measured (op ∷ ops) ≡ added (count + 1) (measured + measures op) ops
added_one count measured op ops =
    let p : count + suc (length ops) ≡ count + 1 + length ops = omega arith in
    let q : measured + (measures op + count_measured ops) ≡ measured + measures op + count_measured ops = omega arith in
    λ i. record { operations = p i; measured = q i }

-- where a pass stands: the whole count is what was counted, and the count of what is left
pub record Counting (n : ℕ) (s : List ℕ) (whole : Verdict Counts) (at count measured : ℕ) : Type 0 where
  pub same : then (operations n (most_operations - count) (count + 2) (drop at s)) (λ ops. accepted (added count measured ops)) ≡ whole
  pub enough : count ≤ most_operations
  pub few : measured ≤ count

module _ (n : ℕ) (s : List ℕ) (whole : Verdict Counts) (at count measured : ℕ) (k : Counting n s whole at count measured) where
  room : count < most_operations → most_operations - count ≡ suc (most_operations - (count + 1))
  room h = omega arith

  -- one line is left to be read
  reads_on :
      (r : Found Op) → at < length s → count < most_operations → op_line (drop at s) ≡ r
      → then (after_line n (most_operations - (count + 1)) (count + 2) r) (λ ops. accepted (added count measured ops)) ≡ whole
  reads_on r h f e =
      ap (λ (v : Verdict (List Op)). then v (λ ops. accepted (added count measured ops)))
      (sym (operations_suc n (most_operations - (count + 1)) (count + 2) (drop at s) r (ends_not s at h) e))
      ∙ (rw (room f) at k.same)

  pub too_many : at < length s → count ≡ most_operations → refused 6 (most_operations + 2) ≡ whole
  too_many h e =
      sym (ap (λ (v : Verdict (List Op)). then v (λ ops. accepted (added most_operations measured ops))) (operations_zero n (most_operations + 2) (drop at s) (ends_not s at h)))
      ∙ (rw e at k.same)

  pub refused_line :
      (a p : ℕ) → at < length s → (count ≡ most_operations → ⊥) → line_verdict n (count + 2) (op_line (drop at s)) ≡ refused a p
      → refused a p ≡ whole
  refused_line a p h f e =
      sym (ap (λ (v : Verdict (List Op)). then v (λ ops. accepted (added count measured ops))) (refused_after n (most_operations - (count + 1)) (count + 2) a p (op_line (drop at s)) e))
      ∙ reads_on (op_line (drop at s)) h (omega (arith, k.enough)) refl

  pub passed_line : (next m : ℕ) → at < length s → (count ≡ most_operations → ⊥) → Passes s at n (count + 2) next m → Counting n s whole next (count + 1) (measured + m)
  passed_line next m h f w =
      let op = w.op in
      let left = most_operations - (count + 1) in
      let line : count + 1 + 2 ≡ suc (count + 2) = omega arith in
      let later = operations n left (suc (count + 2)) (drop next s) in
      let one : ◌≡◌ {A = List Op → Verdict Counts} (λ ops. accepted (added (count + 1) (measured + m) ops)) (λ ops. accepted (added count measured (op ∷ ops))) =
      rw w.measured_is (λ i ops. accepted (sym (added_one count measured op ops) i))
      in
      record {
        same =
            rw line
            (ap (then later) one
            ∙ sym (then_then later (λ ops. accepted (op ∷ ops)) (λ ops. accepted (added count measured ops)))
            ∙ ap (λ (v : Verdict (List Op)). then v (λ ops. accepted (added count measured ops))) (sym (passed_after n left (count + 2) op (drop next s) w.allowed))
            ∙ reads_on (found op (drop next s)) h (omega (arith, k.enough)) w.stands.reads);
        enough = omega (arith, k.enough);
        few = omega (arith, k.few, measures_one op, w.measured_is);
      }

  pub counted : length s ≤ at → accepted (record { operations = count; measured = measured }) ≡ whole
  counted h =
      let p : count ≡ count + 0 = omega arith in
      let q : measured ≡ measured + 0 = omega arith in
      (λ i. accepted (record { operations = p i; measured = q i }))
      ∙ ap (λ (v : Verdict (List Op)). then v (λ ops. accepted (added count measured ops))) (sym (operations_end n (most_operations - count) (count + 2) (drop at s) (ends_past s at h)))
      ∙ k.same
