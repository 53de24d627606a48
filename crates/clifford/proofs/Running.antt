-- Rows stay properly paired through every operation of a run, and every multiplied row has the sign of a product of commuting rows. Assumes nothing.
use mathlib.Core.Path.{◌≡◌, refl, sym, ◌∙◌, ap}
use mathlib.Core.Bool.{Bool, true, false, cond}
use mathlib.Core.List.{List, [], ◌∷◌, ◌++◌}
use Prim.Native.Nat.{ℕ, suc, ◌+◌, ◌<◌}
use native.Mathlib.Nat.{add-zero}
use native.Mathlib.Omega.{arith}
use borrow.Author.Tests.{ne_eqb}
use lib.ListN.{length}
use Rattle.answers.specs.Verdict.{Verdict, accepted, refused, then}
use Rattle.pauli.specs.Rows.{Row, phased, product, anticommute, times_row}
use Rattle.pauli.proofs.RowLaws.{times_phased}
use Rattle.clifford.specs.declared.Op.{Op}
use Rattle.clifford.specs.Tableau.{Rows, Paired}
use Rattle.clifford.specs.Measurement.{has_x, cleared, collapsed}
use Rattle.clifford.specs.Run.{State, coin, step, run, AllValid}
use Rattle.clifford.proofs.Pairing.{gate_paired, collapsed_paired}
use Rattle.clifford.proofs.Keeping.{Kept, Keeps, run_keeps}

-- a row that is multiplied commutes with row p, so its sign is that of the product with its power of i
cleared_phased : (n a : ℕ) (p r : Row) → anticommute n r.letters p.letters ≡ false → phased (cleared n a p r) ≡ cond (has_x a r) (product n (phased r) (phased p)) (phased r)
cleared_phased n a p r e = go (has_x a r)
  where
    go : (b : Bool) → phased (cond b (times_row n r p) r) ≡ cond b (product n (phased r) (phased p)) (phased r)
    go true = times_phased n r p e
    go false = refl

pub record Multiplied (n a p : ℕ) (coin : Bool) (t : Rows) (i : ℕ) : Type 0 where
  pub destabilizer : phased ((collapsed n a p coin t).destabilizer i) ≡ cond (has_x a (t.destabilizer i)) (product n (phased (t.destabilizer i)) (phased (t.stabilizer p))) (phased (t.destabilizer i))
  pub stabilizer : phased ((collapsed n a p coin t).stabilizer i) ≡ cond (has_x a (t.stabilizer i)) (product n (phased (t.stabilizer i)) (phased (t.stabilizer p))) (phased (t.stabilizer i))

pub products_commute : (n a p : ℕ) (coin : Bool) (t : Rows) → Paired n t → p < n → (i : ℕ) → i < n → (i ≡ p → ⊥) → Multiplied n a p coin t i
products_commute n a p coin t k hp i hi d = record {
  destabilizer = rw (ne_eqb i p d) (cleared_phased n a (t.stabilizer p) (t.destabilizer i) (k.partners i p hi hp ∙ ne_eqb i p d));
  stabilizer = rw (ne_eqb i p d) (cleared_phased n a (t.stabilizer p) (t.stabilizer i) (k.stabilizers i p hi hp));
}

-- what each of the nine operations makes of properly paired rows is properly paired
pub pairing : (n : ℕ) → Keeps n (Paired n)
pairing n = record { by_gate = gate_paired n; by_random = collapsed_paired n }

-- a run of two lists of operations goes on from where the first ends
pub run_joined : (n line : ℕ) (ops more : List Op) (s : State) → run n line (ops ++ more) s ≡ then (run n line ops s) (run n (line + length ops) more)
run_joined n line [] more s = ap (λ (k : ℕ). run n k more s) (sym (add-zero line))
run_joined n line (op ∷ ops) more s = go (run_joined n (suc line) ops more) (step n line op s)
  where
    later : suc line + length ops ≡ line + suc (length ops)
    later = omega arith

    go : ((t : State) → run n (suc line) (ops ++ more) t ≡ then (run n (suc line) ops t) (run n (suc line + length ops) more)) → (v : Verdict State)
        → then v (run n (suc line) (ops ++ more)) ≡ then (then v (run n (suc line) ops)) (run n (line + suc (length ops)) more)
    go ih (accepted t) = ih t ∙ ap (λ (k : ℕ). then (run n (suc line) ops t) (run n k more)) later
    go ih (refused number place) = refl

-- the first of valid operations are valid
pub valid_front : (n : ℕ) (front later : List Op) → AllValid n (front ++ later) → AllValid n front
valid_front n [] later v = tt
valid_front n (op ∷ front) later v = (v.0, valid_front n front later v.1)

-- a run that is accepted was accepted after each of its operations, with properly paired rows there
pub record Reached (n line : ℕ) (before : List Op) (s : State) : Type 0 where
  pub state : State
  pub reached : run n line before s ≡ accepted state
  pub paired : Paired n state.rows

pub every_prefix : (n line : ℕ) (before later : List Op) (s e : State) → AllValid n before → Paired n s.rows → run n line (before ++ later) s ≡ accepted e → Reached n line before s
every_prefix n line before later s e v k r = go (run n line before s) refl (run_keeps n (Paired n) (pairing n) line before s v k) (sym (run_joined n line before later s) ∙ r)
  where
    go : (w : Verdict State) → run n line before s ≡ w → Kept (Paired n) w → then w (run n (line + length before) later) ≡ accepted e → Reached n line before s
    go (accepted t) u m q = record { state = t; reached = u; paired = m }
    go (refused number place) u m q = absurd (let z : ◌≡◌ {A = ℕ} 0 1 = cc in omega arith)
