-- Measuring with a reset: the outcome decides row signs only, the qubit is then fixed at 0, and it is what M and an X line on outcome 1 did before. Assumes nothing.
use mathlib.Core.Path.{◌≡◌, refl, sym, ap, ap₂}
use mathlib.Core.Bool.{Bool, true, false, cond}
use mathlib.Core.List.{List, [], ◌∷◌, ◌++◌}
use Rattle.std.specs.Prelude.{Option, None, Some}
use Prim.Native.Nat.{ℕ, ◌<◌}
use lib.Dec.{eqb}
use Rattle.answers.specs.First.{lowest}
use Rattle.answers.specs.Verdict.{Verdict, accepted, refused}
use Rattle.answers.proofs.First.{lowest_is}
use Rattle.answers.proofs.First as first
use Rattle.pauli.specs.Letters.{x}
use Rattle.pauli.specs.Rows.{Row, mul, times_row}
use Rattle.clifford.specs.declared.After.{After}
use Rattle.clifford.specs.declared.After.TheVariants.{Keep, Reset}
use Rattle.clifford.specs.declared.Op.TheVariants.{Measure as measure}
use Rattle.clifford.specs.Tableau.{Rows, Paired}
use Rattle.clifford.specs.Measurement.{has_x, random_row, cleared, settled, collapsed, fixed_value}
use Rattle.clifford.specs.Generators.{FixedAt}
use Rattle.clifford.specs.Run.{State, coin, afterwards, settle, step}
use Rattle.clifford.proofs.Pairing.{collapsed_paired}
use Rattle.clifford.proofs.Afterwards.{all_turned, afterwards_turns}
use Rattle.clifford.proofs.Again.{random_again, flipped_again}

-- two tableaus have the same letters in every row
pub record SameLetters (t u : Rows) : Type 0 where
  pub destabilizers : (i : ℕ) → (t.destabilizer i).letters ≡ (u.destabilizer i).letters
  pub stabilizers : (i : ℕ) → (t.stabilizer i).letters ≡ (u.stabilizer i).letters

-- rows that are alike in their letters stay so through a measurement, whatever the outcomes and what follows them
module _ (n a : ℕ) where
  cleared_letters : (p q r s : Row) → p.letters ≡ q.letters → r.letters ≡ s.letters → (cleared n a p r).letters ≡ (cleared n a q s).letters
  cleared_letters p q r s e f = rw (ap (λ l. x (l a)) f) (go (has_x a s))
    where
      go : (b : Bool) → (cond b (times_row n r p) r).letters ≡ (cond b (times_row n s q) s).letters
      go true = ap₂ mul f e
      go false = f

  collapsed_letters : (p : ℕ) (c d : Bool) (t u : Rows) → SameLetters t u → SameLetters (collapsed n a p c t) (collapsed n a p d u)
  collapsed_letters p c d t u m = record { destabilizers = λ i. go_d i (eqb i p); stabilizers = λ i. go_s i (eqb i p) }
    where
      go_d : (i : ℕ) (b : Bool) → (cond b (t.stabilizer p) (cleared n a (t.stabilizer p) (t.destabilizer i))).letters ≡ (cond b (u.stabilizer p) (cleared n a (u.stabilizer p) (u.destabilizer i))).letters
      go_d i true = m.stabilizers p
      go_d i false = cleared_letters (t.stabilizer p) (u.stabilizer p) (t.destabilizer i) (u.destabilizer i) (m.stabilizers p) (m.destabilizers i)

      go_s : (i : ℕ) (b : Bool) → (cond b (settled a c) (cleared n a (t.stabilizer p) (t.stabilizer i))).letters ≡ (cond b (settled a d) (cleared n a (u.stabilizer p) (u.stabilizer i))).letters
      go_s i true = refl
      go_s i false = cleared_letters (t.stabilizer p) (u.stabilizer p) (t.stabilizer i) (u.stabilizer i) (m.stabilizers p) (m.stabilizers i)

  afterwards_letters : (f : After) (c d : Bool) (t u : Rows) → SameLetters t u → SameLetters (afterwards f a c t) (afterwards f a d u)
  afterwards_letters f c d t u m = rw (afterwards_turns f a c t, afterwards_turns f a d u) (go f)
    where
      go : (f : After) → SameLetters (all_turned f a c t) (all_turned f a d u)
      go Keep = m
      go Reset = record { destabilizers = m.destabilizers; stabilizers = m.stabilizers }

  abbrev RowsAgree : Verdict State → Verdict State → Type 0
  RowsAgree (accepted e) (accepted f) = SameLetters e.rows f.rows
  RowsAgree (accepted e) (refused number place) = Unit {0}
  RowsAgree (refused number place) v = Unit {0}

  module _ (line line' : ℕ) (f : After) (s u : State) (m : SameLetters s.rows u.rows) where
    settled_agree : (o : Option ℕ) (k l : List ℕ) → RowsAgree (settle n line f a s o k) (settle n line' f a u o l)
    settled_agree None k l = afterwards_letters f (fixed_value n a s.rows) (fixed_value n a u.rows) s.rows u.rows m
    settled_agree (Some p) [] l = tt
    settled_agree (Some p) (b ∷ k) [] = tt
    settled_agree (Some p) (b ∷ k) (c ∷ l) = afterwards_letters f (coin b) (coin c) _ _ (collapsed_letters p (coin b) (coin c) s.rows u.rows m)

    -- the outcome decides row signs only, never a letter: with either coin, and from rows of other signs too, M and MR leave the same letters
    pub signs_only : (e v : State) → step n line (measure f a) s ≡ accepted e → step n line' (measure f a) u ≡ accepted v → SameLetters e.rows v.rows
    signs_only e v p q =
        let k : RowsAgree (step n line (measure f a) s) (step n line' (measure f a) u) = rw same (settled_agree (random_row n a s.rows) s.coins u.coins) in
        rw (p, q) at k
      where
        same : random_row n a u.rows ≡ random_row n a s.rows
        same = λ j. lowest (λ i. x (sym (m.stabilizers i) j a)) n

-- MR applies X on outcome 1 alone, and the letters are the same with it and without
pub reset_letters : (a : ℕ) (t : Rows) → SameLetters (afterwards Reset a false t) (afterwards Reset a true t)
reset_letters a t = afterwards_letters 0 a Reset false true t t (record { destabilizers = λ i. refl; stabilizers = λ i. refl })

-- MR leaves a fixed at 0
module _ (n line a : ℕ) (s : State) (h : a < n) (k : Paired n s.rows) where
  zeroed : (value : Bool) (t : Rows) → Paired n t → FixedAt n a t value → FixedAt n a (afterwards Reset a value t) false
  zeroed false t k m = m
  zeroed true t k m = flipped_again n a t h true k m

  abbrev Zero : Verdict State → Type 0
  Zero (accepted e) = FixedAt n a e.rows false
  Zero (refused number place) = Unit {0}

  settled_zero : (o : Option ℕ) → random_row n a s.rows ≡ o → first.Answer (λ i. has_x a (s.rows.stabilizer i)) n o → (coins : List ℕ) → Zero (settle n line Reset a s o coins)
  settled_zero None e l coins = zeroed (fixed_value n a s.rows) s.rows k (record { fixed = e; is = refl })
  settled_zero (Some p) e l [] = tt
  settled_zero (Some p) e l (byte ∷ coins) =
      zeroed (coin byte) (collapsed n a p (coin byte) s.rows) (collapsed_paired n a p (coin byte) s.rows h l.below l.passes k) (random_again n a p (coin byte) s.rows l.passes l.below)

  pub reset_fixed : (e : State) → step n line (measure Reset a) s ≡ accepted e → FixedAt n a e.rows false
  reset_fixed e q =
      let z : Zero (step n line (measure Reset a) s) = settled_zero (random_row n a s.rows) refl (lowest_is (λ i. has_x a (s.rows.stabilizer i)) n) s.coins in
      rw q at z

  -- MR a, then M a or MR a on any line: the second outcome is fixed at 0, no row changes and no coin is taken
  pub reset_then_measured : (e : State) → step n line (measure Reset a) s ≡ accepted e → (next : ℕ) (f : After)
      → step n next (measure f a) e ≡ accepted (record { outcomes = e.outcomes ++ (record { random = false; value = false } ∷ []); rows = e.rows; coins = e.coins })
  reset_then_measured e q next f = go (reset_fixed e q) f
    where
      go : FixedAt n a e.rows false → (f : After) → step n next (measure f a) e ≡ accepted (record { outcomes = e.outcomes ++ (record { random = false; value = false } ∷ []); rows = e.rows; coins = e.coins })
      go m Keep = rw (m.fixed, m.is)
      go m Reset = rw (m.fixed, m.is)
