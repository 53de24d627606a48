-- A run's rows have no letter from n on, and no row stands from number n on: every operation keeps that. Assumes nothing.
use mathlib.Core.Path.{◌≡◌, ◌∙◌, ap, ap₂}
use mathlib.Core.Bool.{Bool, true, false, cond}
use Prim.Native.Nat.{ℕ, ◌≤◌, ◌<◌}
use native.Mathlib.Omega.{arith}
use lib.Dec.{eqb}
use borrow.Author.Tests.{ne_eqb}
use Rattle.pauli.specs.Letters.{I, ◌·◌}
use Rattle.pauli.specs.Rows.{Letters, Row, times_row}
use Rattle.clifford.specs.declared.Gate.{Gate}
use Rattle.clifford.specs.declared.Gate.TheVariants.{One as one, Two as two}
use Rattle.clifford.specs.Gates.{new, gate, Fits}
use Rattle.clifford.specs.Tableau.{Rows}
use Rattle.clifford.specs.Measurement.{has_x, cleared, settled, collapsed}
use Rattle.clifford.proofs.Keeping.{Keeps}
use Rattle.columns.proofs.Gates.{gate_blank}
use Rattle.records.proofs.Held.{Tidy, Clean}

new_beyond : (n : ℕ) (g : Gate) (r : Letters) (j : ℕ) → Fits n g → n ≤ j → r j ≡ I → new g r j ≡ I
new_beyond n (one g a) r j f h e = rw (ne_eqb j a (λ q. omega arith)) e
new_beyond n (two g a b) r j f h e = rw (ne_eqb j a (λ q. omega (arith, f.0)), ne_eqb j b (λ q. omega (arith, f.1))) e

tidy_gate : (n : ℕ) (g : Gate) (f : ℕ → Row) → Fits n g → Tidy n f → Tidy n (λ i. gate g (f i))
tidy_gate n g f k t = record { letters = λ i j h. new_beyond n g (f i).letters j k h (t.letters i j h); blanks = λ i h. ap (gate g) (t.blanks i h) ∙ gate_blank g }

tidy_cleared : (n a : ℕ) (p : Row) (f : ℕ → Row) → ((j : ℕ) → n ≤ j → p.letters j ≡ I) → Tidy n f → Tidy n (λ i. cleared n a p (f i))
tidy_cleared n a p f l t = record { letters = λ i j h. go (has_x a (f i)) i j h; blanks = λ i h. ap (cleared n a p) (t.blanks i h) }
  where
    go : (b : Bool) (i j : ℕ) → n ≤ j → (cond b (times_row n (f i) p) (f i)).letters j ≡ I
    go true i j h = ap₂ (λ r s. r · s) (t.letters i j h) (l j h)
    go false i j h = t.letters i j h

-- at number p, which is below n, another row
tidy_at : (n p : ℕ) (r : Row) (f : ℕ → Row) → p < n → ((j : ℕ) → n ≤ j → r.letters j ≡ I) → Tidy n f → Tidy n (λ i. cond (eqb i p) r (f i))
tidy_at n p r f hp l t = record { letters = λ i j h. go (eqb i p) i j h; blanks = λ i h. rw (ne_eqb i p (λ q. omega arith)) (t.blanks i h) }
  where
    go : (b : Bool) (i j : ℕ) → n ≤ j → (cond b r (f i)).letters j ≡ I
    go true i j h = l j h
    go false i j h = t.letters i j h

clean_collapsed : (n a p : ℕ) (c : Bool) (t : Rows) → a < n → p < n → Clean n t → Clean n (collapsed n a p c t)
clean_collapsed n a p c t ha hp k = record {
  destabilizers = tidy_at n p (t.stabilizer p) _ hp (k.stabilizers.letters p) (tidy_cleared n a (t.stabilizer p) t.destabilizer (k.stabilizers.letters p) k.destabilizers);
  stabilizers = tidy_at n p (settled a c) _ hp (λ j h. rw (ne_eqb j a (λ q. omega arith))) (tidy_cleared n a (t.stabilizer p) t.stabilizer (k.stabilizers.letters p) k.stabilizers);
}

pub cleaning : (n : ℕ) → Keeps n (Clean n)
cleaning n = record {
  by_gate = λ g t v k. record { destabilizers = tidy_gate n g _ v k.destabilizers; stabilizers = tidy_gate n g _ v k.stabilizers };
  by_random = λ a p coin t ha hp _ k. clean_collapsed n a p coin t ha hp k;
}
