-- Four runs of one circuit whose coins are alike are alike throughout: the same letters, kinds and refusal, and each outcome and row sign of the
-- fourth is the exclusive or of the other three. This carries demand 3. Assumes nothing.
use mathlib.Core.Path.{◌≡◌, refl, sym, ◌∙◌, ap, ap₂}
use mathlib.Core.Bool.{Bool, true, false, ◌&&◌, cond}
use mathlib.Core.List.{List, [], ◌∷◌, ◌++◌}
use Rattle.std.specs.Prelude.{Option, None, Some}
use Prim.Native.Nat.{ℕ, zero, suc}
use native.Mathlib.Omega.{arith}
use lib.Dec.{eqb}
use lib.ListN.{length}
use Rattle.answers.specs.Verdict.{Verdict, accepted, refused, then}
use Rattle.pauli.specs.Letters.{◌⊕◌, x, z, Power, i0, ◌⊞◌, sign}
use Rattle.pauli.specs.Rows.{Row, Phased, mul, total, product, phased, minus_sign, times_row}
use Rattle.pauli.proofs.Cases.{tested, bit, pow}
use Rattle.pauli.proofs.RowLaws.{times_minus}
use Rattle.clifford.specs.declared.Gate.{Gate}
use Rattle.clifford.specs.declared.After.{After}
use Rattle.clifford.specs.declared.After.TheVariants.{Keep, Reset}
use Rattle.clifford.specs.declared.Op.{Op}
use Rattle.clifford.specs.declared.Op.TheVariants.{Gate as apply, Measure as measure}
use Rattle.clifford.specs.Gates.{turns, new, gate}
use Rattle.clifford.specs.Tableau.{Rows, start}
use Rattle.answers.specs.First.{lowest}
use Rattle.clifford.specs.declared.Outcome.{Outcome}
use Rattle.clifford.specs.Measurement.{random_row, cleared, collapsed, gathered, fixed_value, Answer}
use Rattle.clifford.specs.Run.{State, coin, begin, afterwards, concluded, settle, step, run}
use Rattle.clifford.proofs.Afterwards.{turned, afterwards_turns}

-- four rows of the same letters, the last of whose signs is the sum of the others'
pub record RowAlike (a b c d : Row) : Type 0 where
  pub second : b.letters ≡ a.letters
  pub third : c.letters ≡ a.letters
  pub fourth : d.letters ≡ a.letters
  pub signs : d.minus ≡ a.minus ⊕ b.minus ⊕ c.minus

pub record RowsAlike (a b c d : Rows) : Type 0 where
  pub destabilizers : (i : ℕ) → RowAlike (a.destabilizer i) (b.destabilizer i) (c.destabilizer i) (d.destabilizer i)
  pub stabilizers : (i : ℕ) → RowAlike (a.stabilizer i) (b.stabilizer i) (c.stabilizer i) (d.stabilizer i)

pub record OutcomeAlike (a b c d : Outcome) : Type 0 where
  pub second : b.random ≡ a.random
  pub third : c.random ≡ a.random
  pub fourth : d.random ≡ a.random
  pub values : d.value ≡ a.value ⊕ b.value ⊕ c.value

pub record BitsAlike (a b c d : Bool) : Type 0 where
  pub is : d ≡ a ⊕ b ⊕ c

pub data AllAlike {A : Type 0} (R : A → A → A → A → Type 0) : List A → List A → List A → List A → Type 0 where
  done : AllAlike R [] [] [] []
  more : {a b c d : A} {k l m o : List A} → R a b c d → AllAlike R k l m o → AllAlike R (a ∷ k) (b ∷ l) (c ∷ m) (d ∷ o)

abbrev pub CoinAlike : ℕ → ℕ → ℕ → ℕ → Type 0
CoinAlike a b c d = BitsAlike (coin a) (coin b) (coin c) (coin d)

pub record StateAlike (a b c d : State) : Type 0 where
  pub outcomes : AllAlike OutcomeAlike a.outcomes b.outcomes c.outcomes d.outcomes
  pub rows : RowsAlike a.rows b.rows c.rows d.rows
  pub coins : AllAlike CoinAlike a.coins b.coins c.coins d.coins

-- all four are refused with one number and place, or all are accepted
pub data Alike : Verdict State → Verdict State → Verdict State → Verdict State → Type 0 where
  all_refused : {number place : ℕ} → Alike (refused number place) (refused number place) (refused number place) (refused number place)
  all_accepted : {a b c d : State} → StateAlike a b c d → Alike (accepted a) (accepted b) (accepted c) (accepted d)

pub joined : {A : Type 0} {R : A → A → A → A → Type 0} {a b c d k l m o : List A} → AllAlike R a b c d → AllAlike R k l m o → AllAlike R (a ++ k) (b ++ l) (c ++ m) (d ++ o)
joined done s = s
joined (more r q) s = more r (joined q s)

pick : (p : Bool) {a b c d a' b' c' d' : Row} → RowAlike a b c d → RowAlike a' b' c' d' → RowAlike (cond p a a') (cond p b b') (cond p c c') (cond p d d')
pick true m m' = m
pick false m m' = m'

alike_gate : (g : Gate) {a b c d : Row} → RowAlike a b c d → RowAlike (gate g a) (gate g b) (gate g c) (gate g d)
alike_gate g {a} {b} {c} {d} m = record {
  second = ap (new g) m.second;
  third = ap (new g) m.third;
  fourth = ap (new g) m.fourth;
  signs = rw (m.signs, m.second, m.third, m.fourth) (law a.minus b.minus c.minus (turns g a.letters));
}
  where
    law : (p q r f : Bool) → p ⊕ q ⊕ r ⊕ f ≡ p ⊕ f ⊕ (q ⊕ f) ⊕ (r ⊕ f)
    law = tested (bit ∷ bit ∷ bit ∷ bit ∷ []) bit _ _ tt

alike_times : (n : ℕ) {a b c d a' b' c' d' : Row} → RowAlike a b c d → RowAlike a' b' c' d' → RowAlike (times_row n a a') (times_row n b b') (times_row n c c') (times_row n d d')
alike_times n {a} {b} {c} {d} {a'} {b'} {c'} {d'} m m' = record {
  second = ap₂ mul m.second m'.second;
  third = ap₂ mul m.third m'.third;
  fourth = ap₂ mul m.fourth m'.fourth;
  signs = sign_of d d' m.fourth m'.fourth ∙ (λ i. m.signs i ⊕ m'.signs i ⊕ f)
      ∙ law a.minus b.minus c.minus a'.minus b'.minus c'.minus f
      ∙ sym (λ i. sign_of a a' refl refl i ⊕ sign_of b b' m.second m'.second i ⊕ sign_of c c' m.third m'.third i);
}
  where
    f : Bool
    f = minus_sign (total n a.letters a'.letters)

    sign_of : (r r' : Row) → r.letters ≡ a.letters → r'.letters ≡ a'.letters → (times_row n r r').minus ≡ r.minus ⊕ r'.minus ⊕ f
    sign_of r r' e e' = times_minus n r r' ∙ (λ i. r.minus ⊕ r'.minus ⊕ minus_sign (total n (e i) (e' i)))

    law : (p q r p' q' r' f : Bool) → p ⊕ q ⊕ r ⊕ (p' ⊕ q' ⊕ r') ⊕ f ≡ p ⊕ p' ⊕ f ⊕ (q ⊕ q' ⊕ f) ⊕ (r ⊕ r' ⊕ f)
    law = tested (bit ∷ bit ∷ bit ∷ bit ∷ bit ∷ bit ∷ bit ∷ []) bit _ _ tt

alike_cleared : (n q : ℕ) {a b c d a' b' c' d' : Row} → RowAlike a b c d → RowAlike a' b' c' d' → RowAlike (cleared n q a a') (cleared n q b b') (cleared n q c c') (cleared n q d d')
alike_cleared n q {a' = a'} m m' =
    rw (ap (λ w. x (w q)) m'.second, ap (λ w. x (w q)) m'.third, ap (λ w. x (w q)) m'.fourth)
    (pick (x (a'.letters q)) (alike_times n m' m) m')

alike_collapsed : (n q p : ℕ) {a b c d : Rows} {e f g h : Bool} → BitsAlike e f g h → RowsAlike a b c d → RowsAlike (collapsed n q p e a) (collapsed n q p f b) (collapsed n q p g c) (collapsed n q p h d)
alike_collapsed n q p u m = record {
  destabilizers = λ i. pick (eqb i p) (m.stabilizers p) (alike_cleared n q (m.stabilizers p) (m.destabilizers i));
  stabilizers = λ i. pick (eqb i p) (record { second = refl; third = refl; fourth = refl; signs = u.is }) (alike_cleared n q (m.stabilizers p) (m.stabilizers i));
}

-- the product that decides a fixed measurement: one power of the letters, and the signs
record PhasedAlike (a b c d : Phased) : Type 0 where
  second : b.letters ≡ a.letters
  third : c.letters ≡ a.letters
  fourth : d.letters ≡ a.letters
  one : Bool
  two : Bool
  three : Bool
  power : Power
  first_is : a.phase ≡ sign one ⊞ power
  second_is : b.phase ≡ sign two ⊞ power
  third_is : c.phase ≡ sign three ⊞ power
  fourth_is : d.phase ≡ sign (one ⊕ two ⊕ three) ⊞ power

pick_phased : (p : Bool) {a b c d a' b' c' d' : Phased} → PhasedAlike a b c d → PhasedAlike a' b' c' d' → PhasedAlike (cond p a a') (cond p b b') (cond p c c') (cond p d d')
pick_phased true m m' = m
pick_phased false m m' = m'

alike_product : (n : ℕ) {a b c d : Phased} {a' b' c' d' : Row} → PhasedAlike a b c d → RowAlike a' b' c' d' → PhasedAlike (product n a (phased a')) (product n b (phased b')) (product n c (phased c')) (product n d (phased d'))
alike_product n {a} {b} {c} {d} {a'} {b'} {c'} {d'} m m' = record {
  second = ap₂ mul m.second m'.second;
  third = ap₂ mul m.third m'.third;
  fourth = ap₂ mul m.fourth m'.fourth;
  one = m.one ⊕ a'.minus;
  two = m.two ⊕ b'.minus;
  three = m.three ⊕ c'.minus;
  power = m.power ⊞ total n a.letters a'.letters;
  first_is = rw m.first_is (law m.one a'.minus m.power (total n a.letters a'.letters));
  second_is = rw (m.second_is, m.second, m'.second) (law m.two b'.minus m.power (total n a.letters a'.letters));
  third_is = rw (m.third_is, m.third, m'.third) (law m.three c'.minus m.power (total n a.letters a'.letters));
  fourth_is = rw (m.fourth_is, m.fourth, m'.fourth, m'.signs)
      (law (m.one ⊕ m.two ⊕ m.three) (a'.minus ⊕ b'.minus ⊕ c'.minus) m.power (total n a.letters a'.letters)
      ∙ ap (λ s. sign s ⊞ (m.power ⊞ total n a.letters a'.letters)) (mix m.one m.two m.three a'.minus b'.minus c'.minus));
}
  where
    law : (s t : Bool) (p q : Power) → sign s ⊞ p ⊞ sign t ⊞ q ≡ sign (s ⊕ t) ⊞ (p ⊞ q)
    law = tested (bit ∷ bit ∷ pow ∷ pow ∷ []) pow _ _ tt

    mix : (p q r s t u : Bool) → p ⊕ q ⊕ r ⊕ (s ⊕ t ⊕ u) ≡ p ⊕ s ⊕ (q ⊕ t) ⊕ (r ⊕ u)
    mix = tested (bit ∷ bit ∷ bit ∷ bit ∷ bit ∷ bit ∷ []) bit _ _ tt

gathered_step : (n q k : ℕ) {a b c d : Rows} → RowsAlike a b c d → PhasedAlike (gathered n q a k) (gathered n q b k) (gathered n q c k) (gathered n q d k)
    → PhasedAlike (gathered n q a (suc k)) (gathered n q b (suc k)) (gathered n q c (suc k)) (gathered n q d (suc k))
gathered_step n q k {a} m g =
    rw (ap (λ w. x (w q)) (m.destabilizers k).second, ap (λ w. x (w q)) (m.destabilizers k).third, ap (λ w. x (w q)) (m.destabilizers k).fourth)
    (pick_phased (x ((a.destabilizer k).letters q)) (alike_product n g (m.stabilizers k)) g)

alike_gathered : (n q : ℕ) {a b c d : Rows} → RowsAlike a b c d → (k : ℕ) → PhasedAlike (gathered n q a k) (gathered n q b k) (gathered n q c k) (gathered n q d k)
alike_gathered n q m zero = record { second = refl; third = refl; fourth = refl; one = false; two = false; three = false; power = i0; first_is = refl; second_is = refl; third_is = refl; fourth_is = refl }
alike_gathered n q m (suc k) = gathered_step n q k m (alike_gathered n q m k)

alike_fixed : (n q : ℕ) {a b c d : Rows} → RowsAlike a b c d → fixed_value n q d ≡ fixed_value n q a ⊕ fixed_value n q b ⊕ fixed_value n q c
alike_fixed n q m =
    let g = alike_gathered n q m n in
    rw (g.first_is, g.second_is, g.third_is, g.fourth_is) (law g.one g.two g.three g.power)
  where
    law : (s t u : Bool) (p : Power) → minus_sign (sign (s ⊕ t ⊕ u) ⊞ p) ≡ minus_sign (sign s ⊞ p) ⊕ minus_sign (sign t ⊞ p) ⊕ minus_sign (sign u ⊞ p)
    law = tested (bit ∷ bit ∷ bit ∷ pow ∷ []) bit _ _ tt

alike_turned : (f : After) (q : ℕ) {a b c d : Row} → RowAlike a b c d → {e g h o : Bool} → BitsAlike e g h o → RowAlike (turned f q e a) (turned f q g b) (turned f q h c) (turned f q o d)
alike_turned Keep q m u = m
alike_turned Reset q {a} {b} {c} {d} m {e} {g} {h} u = record {
  second = m.second;
  third = m.third;
  fourth = m.fourth;
  signs = rw (m.signs, m.second, m.third, m.fourth, u.is) (law a.minus b.minus c.minus e g h (z (a.letters q)));
}
  where
    law : (p q r e g h l : Bool) → p ⊕ q ⊕ r ⊕ ((e ⊕ g ⊕ h) && l) ≡ p ⊕ (e && l) ⊕ (q ⊕ (g && l)) ⊕ (r ⊕ (h && l))
    law = tested (bit ∷ bit ∷ bit ∷ bit ∷ bit ∷ bit ∷ bit ∷ []) bit _ _ tt

alike_afterwards : (f : After) (q : ℕ) {a b c d : Rows} → RowsAlike a b c d → {e g h o : Bool} → BitsAlike e g h o → RowsAlike (afterwards f q e a) (afterwards f q g b) (afterwards f q h c) (afterwards f q o d)
alike_afterwards f q {a} {b} {c} {d} m {e} {g} {h} {o} u =
    rw (afterwards_turns f q e a, afterwards_turns f q g b, afterwards_turns f q h c, afterwards_turns f q o d)
    (record { destabilizers = λ i. alike_turned f q (m.destabilizers i) u; stabilizers = λ i. alike_turned f q (m.stabilizers i) u })

alike_concluded : (f : After) (q : ℕ) {a b c d : State} → StateAlike a b c d → {t t₂ t₃ t₄ : Answer} → RowsAlike t.after t₂.after t₃.after t₄.after → OutcomeAlike t.outcome t₂.outcome t₃.outcome t₄.outcome
    → {k l w o : List ℕ} → AllAlike CoinAlike k l w o → StateAlike (concluded f q a t k) (concluded f q b t₂ l) (concluded f q c t₃ w) (concluded f q d t₄ o)
alike_concluded f q m r v u = record { outcomes = joined m.outcomes (more v done); rows = alike_afterwards f q r (record { is = v.values }); coins = u }

alike_settle : (n line : ℕ) (f : After) (q : ℕ) {a b c d : State} → StateAlike a b c d → (o : Option ℕ) {e g h k : List ℕ} → AllAlike CoinAlike e g h k
    → Alike (settle n line f q a o e) (settle n line f q b o g) (settle n line f q c o h) (settle n line f q d o k)
alike_settle n line f q m None u = all_accepted (alike_concluded f q m m.rows (record { second = refl; third = refl; fourth = refl; values = alike_fixed n q m.rows }) u)
alike_settle n line f q m (Some p) done = all_refused
alike_settle n line f q m (Some p) (more r u) = all_accepted (alike_concluded f q m (alike_collapsed n q p r m.rows) (record { second = refl; third = refl; fourth = refl; values = r.is }) u)

pub alike_step : (n line : ℕ) (op : Op) {a b c d : State} → StateAlike a b c d → Alike (step n line op a) (step n line op b) (step n line op c) (step n line op d)
alike_step n line (apply g) m =
    all_accepted (record {
      outcomes = m.outcomes;
      rows = record { destabilizers = λ i. alike_gate g (m.rows.destabilizers i); stabilizers = λ i. alike_gate g (m.rows.stabilizers i) };
      coins = m.coins;
    })
alike_step n line (measure f q) {a} {b} {c} {d} m =
    rw (test b (λ i. (m.rows.stabilizers i).second), test c (λ i. (m.rows.stabilizers i).third), test d (λ i. (m.rows.stabilizers i).fourth))
    (alike_settle n line f q m (random_row n q a.rows) m.coins)
  where
    test : (b : State) → ((i : ℕ) → (b.rows.stabilizer i).letters ≡ (a.rows.stabilizer i).letters) → random_row n q b.rows ≡ random_row n q a.rows
    test b w = λ j. lowest (λ i. x (w i j q)) n

followed : (n line : ℕ) (ops : List Op)
    → ((a b c d : State) → StateAlike a b c d → Alike (run n (suc line) ops a) (run n (suc line) ops b) (run n (suc line) ops c) (run n (suc line) ops d))
    → {p q r s : Verdict State} → Alike p q r s → Alike (then p (run n (suc line) ops)) (then q (run n (suc line) ops)) (then r (run n (suc line) ops)) (then s (run n (suc line) ops))
followed n line ops ih all_refused = all_refused
followed n line ops ih (all_accepted k) = ih _ _ _ _ k

pub alike_run : (n line : ℕ) (ops : List Op) {a b c d : State} → StateAlike a b c d → Alike (run n line ops a) (run n line ops b) (run n line ops c) (run n line ops d)
alike_run n line [] m = all_accepted m
alike_run n line (op ∷ ops) m = followed n line ops (λ a b c d k. alike_run n (suc line) ops k) (alike_step n line op m)

-- four lists that are alike have one length
pub one_length : {A : Type 0} {R : A → A → A → A → Type 0} {a b c d : List A} → AllAlike R a b c d → (length b ≡ length a) × (length c ≡ length a) × (length d ≡ length a)
one_length done = (refl, refl, refl)
one_length (more r s) = let w = one_length s in (ap suc w.0, ap suc w.1, ap suc w.2)

-- two coin lists of one length, each twice
pub two_alike : (a b : List ℕ) → length b ≡ length a → AllAlike CoinAlike a b a b
two_alike [] [] p = done
two_alike [] (y ∷ b) p = absurd (omega arith)
two_alike (x ∷ a) [] p = absurd (omega arith)
two_alike (x ∷ a) (y ∷ b) p = more (record { is = law (coin x) (coin y) }) (two_alike a b (omega arith))
  where
    law : (s t : Bool) → t ≡ s ⊕ t ⊕ s
    law = tested (bit ∷ bit ∷ []) bit _ _ tt

-- runs with coins that are alike begin alike
pub begin_alike : (n : ℕ) {a b c d : List ℕ} → AllAlike CoinAlike a b c d → StateAlike (begin n a) (begin n b) (begin n c) (begin n d)
begin_alike n u = record {
  outcomes = done;
  rows = record { destabilizers = λ i. same ((start n).destabilizer i); stabilizers = λ i. same ((start n).stabilizer i) };
  coins = u;
}
  where
    thrice : (b : Bool) → b ≡ b ⊕ b ⊕ b
    thrice = tested (bit ∷ []) bit _ _ tt

    same : (r : Row) → RowAlike r r r r
    same r = record { second = refl; third = refl; fourth = refl; signs = thrice r.minus }
