-- The parts of a random measurement, put together. Assumes nothing.
use mathlib.Core.Path.{◌≡◌, refl, sym, ap, ap₂, ◌∙◌}
use mathlib.Core.Bool.{Bool, true, false, not, ◌&&◌, ◌||◌, cond}
use mathlib.Core.List.{List, [], ◌∷◌}
use mathlib.Core.Logic.{◌≢◌}
use Prim.Native.Nat.{ℕ, ◌+◌, ◌*◌, ◌%◌, ◌≤◌, ◌<◌}
use native.Mathlib.Decide.{dec_lt}
use native.Mathlib.Omega.{arith}
use lib.Dec.{eqb}
use Rattle.std.proofs.lemmas.Bool.Decides.{nat_tests}
use borrow.Author.Tests.{ne_eqb, eq-eqb, eqb-true, eqb-false}
use Rattle.limits.specs.Limits.{most_qubits}
use Rattle.pauli.specs.Letters.{i0, sign, ◌⊞◌, ◌⊕◌}
use Rattle.pauli.specs.Rows.{Row, minus_sign, times_row}
use Rattle.pauli.proofs.Cases.{tested, bit as bool}
use Rattle.pauli.proofs.Sums.{sum-zero}
use Rattle.pauli.proofs.LetterLaws.{xor_adds, power_adds, x_letter}
use Rattle.clifford.specs.Tableau.{blank}
use Rattle.clifford.specs.Measurement.{has_x, cleared, settled, collapsed}
use Rattle.packing.specs.View.{row_count, bit_at, row_at, rows_from, rows_of, Holds}
use Rattle.packing.proofs.Views.{row_eq, rows_in, rows_out, all_rows, x_at}
use Rattle.measure_random.specs.Parts.Settled.{Settled}
use Rattle.multiply_rows.specs.Parts.Steps.{Multiplied}
use Rattle.measure_random.proofs.Settling.{settled_row}

-- I times a row is the row
times_blank : (n : ℕ) (r : Row) → times_row n blank r ≡ r
times_blank n r = row_eq _ _ (ap (λ p. minus_sign (sign r.minus ⊞ p)) (sum-zero power_adds n) ∙ law r.minus) (λ j. refl)
  where
    law : (b : Bool) → minus_sign (sign b ⊞ i0) ≡ b
    law = tested (bool ∷ []) bool _ _ tt

or_true : (b : Bool) → (b || true) ≡ true
or_true = tested (bool ∷ []) bool _ _ tt

or_false : (b : Bool) → (b || false) ≡ b
or_false = tested (bool ∷ []) bool _ _ tt

and_false : (b : Bool) → (b && not true) ≡ false
and_false = tested (bool ∷ []) bool _ _ tt

and_true : (b : Bool) → (b && not false) ≡ b
and_true = tested (bool ∷ []) bool _ _ tt

-- both rows of number p
pub both_rows : (s p : ℕ) → s < row_count → p < most_qubits → eqb s p ⊕ eqb s (most_qubits + p) ≡ eqb (s % most_qubits) p
both_rows s p l h = grind (arith, nat_tests)

with_partner : (x b : Bool) → (x && not b) ⊕ b ≡ (x || b)
with_partner = tested (bool ∷ bool ∷ []) bool _ _ tt

module _ (n a p : ℕ) (nl : n ≤ most_qubits) (an : a < n) (pn : p < n) (coin : Bool) (m o : ℕ → Bool) (w t v : List ℕ)
    (mask : (s : ℕ) → s < row_count → m s ≡ (bit_at w (8 * a) s && not (eqb (s % most_qubits) p)) ⊕ eqb s p) (own : (s : ℕ) → s < row_count → o s ≡ eqb s (most_qubits + p))
    (mu : Multiplied n p m (row_at n w (most_qubits + p)) w t) (st : Settled a o coin t v) where
  low : (s : ℕ) → s < most_qubits → m s ≡ (bit_at w (8 * a) s || eqb (s % most_qubits) p)
  low s l =
      let e : s ≡ s % most_qubits = omega arith in
      mask s (omega arith) ∙ ap (λ (k : ℕ). (bit_at w (8 * a) s && not (eqb (s % most_qubits) p)) ⊕ eqb k p) e ∙ with_partner (bit_at w (8 * a) s) (eqb (s % most_qubits) p)

  high : (s : ℕ) → most_qubits ≤ s → s < row_count → m s ≡ (bit_at w (8 * a) s && not (eqb (s % most_qubits) p))
  high s h l = mask s l ∙ ap (λ (b : Bool). (bit_at w (8 * a) s && not (eqb (s % most_qubits) p)) ⊕ b) (ne_eqb s p (λ r. omega arith)) ∙ xor_adds.right _

  abbrev r : Row
  r = row_at n w (most_qubits + p)

  has : (s : ℕ) → bit_at w (8 * a) s ≡ has_x a (row_at n w s)
  has s = sym (x_at n w s a an ∙ x_letter _ _)

  -- the destabilizers: the partner is old row p
  partners : (s : ℕ) → s < most_qubits → (b : Bool) → eqb (s % most_qubits) p ≡ b → row_at n t s ≡ cond b r (cleared n a r (row_at n w s))
  partners s l true e =
      mu.row s (omega arith)
      ∙ ap₂ (λ (c d : Bool). cond c (times_row n (cond d blank (row_at n w s)) r) (cond d blank (row_at n w s)))
      (low s l ∙ ap (λ (d : Bool). bit_at w (8 * a) s || d) e ∙ or_true (bit_at w (8 * a) s)) e
      ∙ times_blank n r
  partners s l false e =
      mu.row s (omega arith)
      ∙ ap₂ (λ (c d : Bool). cond c (times_row n (cond d blank (row_at n w s)) r) (cond d blank (row_at n w s)))
      (low s l ∙ ap (λ (d : Bool). bit_at w (8 * a) s || d) e ∙ or_false (bit_at w (8 * a) s) ∙ has s) e

  -- the stabilizers: row p is clear
  measured : (s : ℕ) → most_qubits ≤ s → s < row_count → (b : Bool) → eqb (s % most_qubits) p ≡ b → row_at n t s ≡ cond b blank (cleared n a r (row_at n w s))
  measured s h l true e =
      mu.row s l
      ∙ ap₂ (λ (c d : Bool). cond c (times_row n (cond d blank (row_at n w s)) r) (cond d blank (row_at n w s)))
      (high s h l ∙ ap (λ (d : Bool). bit_at w (8 * a) s && not d) e ∙ and_false (bit_at w (8 * a) s)) e
  measured s h l false e =
      mu.row s l
      ∙ ap₂ (λ (c d : Bool). cond c (times_row n (cond d blank (row_at n w s)) r) (cond d blank (row_at n w s)))
      (high s h l ∙ ap (λ (d : Bool). bit_at w (8 * a) s && not d) e ∙ and_true (bit_at w (8 * a) s) ∙ has s) e

  clear : row_at n t (most_qubits + p) ≡ blank
  clear = measured (most_qubits + p) (omega arith) (omega arith) true (eq-eqb ((most_qubits + p) % most_qubits) p (omega arith))

  after : (s : ℕ) → s < row_count → row_at n v s ≡ cond (eqb s (most_qubits + p)) (settled a coin) (row_at n t s)
  after s l = settled_row n a o coin t v (most_qubits + p) nl an st clear s l (own s l)

  low_row : (s : ℕ) → s < most_qubits → row_at n v s ≡ cond (eqb (s % most_qubits) p) r (cleared n a r (row_at n w s))
  low_row s l =
      after s (omega arith) ∙ ap (λ (b : Bool). cond b (settled a coin) (row_at n t s)) (ne_eqb s (most_qubits + p) (λ e. omega arith))
      ∙ partners s l (eqb (s % most_qubits) p) refl

  high_row : (s : ℕ) → most_qubits ≤ s → s < row_count → (b : Bool) → eqb (s % most_qubits) p ≡ b → row_at n v s ≡ cond b (settled a coin) (cleared n a r (row_at n w s))
  high_row s h l true e =
      let f : s % most_qubits ≡ p = eqb-true (s % most_qubits) p e in
      after s l ∙ ap (λ (b : Bool). cond b (settled a coin) (row_at n t s)) (eq-eqb s (most_qubits + p) (omega arith))
  high_row s h l false e =
      let f : s % most_qubits ≢ p = eqb-false (s % most_qubits) p e in
      after s l ∙ ap (λ (b : Bool). cond b (settled a coin) (row_at n t s)) (ne_eqb s (most_qubits + p) (λ k. omega arith)) ∙ measured s h l false e

  -- nothing is set from row n or qubit n on
  out : Holds n w → (s : ℕ) → s < row_count → n ≤ s % most_qubits → row_at n v s ≡ blank
  out k s l h = go (dec_lt s most_qubits)
    where
      no_p : eqb (s % most_qubits) p ≡ false
      no_p = ne_eqb (s % most_qubits) p (λ e. omega arith)

      go : Dec (s < most_qubits) → row_at n v s ≡ blank
      go (yes b) = low_row s b ∙ ap₂ (λ (c : Bool) (u : Row). cond c r (cleared n a r u)) no_p (k.rows s l h)
      go (no b) = high_row s (omega arith) l false no_p ∙ ap (cleared n a r) (k.rows s l h)

  pub held : Holds n w → Holds n v
  held k = record {
    words = st.words;
    rows = out k;
    letters = λ s j l h b. st.letters s j l b (λ e. omega arith) ∙ mu.letters s j l h b ∙ k.letters s j l h b;
  }

  -- rows of words, as rows of the tableau
  in_rows : (o : ℕ) (u u' : Row) → u ≡ u' → o % most_qubits ≡ 0 → o ≤ most_qubits → ((s : ℕ) → o ≤ s → s < most_qubits + o → row_at n v s ≡ cond (eqb (s % most_qubits) p) u (cleared n a r (row_at n w s)))
      → (i : ℕ) → rows_from n o v i ≡ cond (eqb i p) u' (cleared n a (rows_from n most_qubits w p) (rows_from n o w i))
  in_rows o u u' eu z ol e =
      all_rows n o v (λ i. cond (eqb i p) u' (cleared n a (rows_from n most_qubits w p) (rows_from n o w i)))
      (λ i l.
      let f : (o + i) % most_qubits ≡ i = omega arith in
      let g : r ≡ rows_from n most_qubits w p = sym (rows_in n most_qubits w p pn) in
      let h : row_at n w (o + i) ≡ rows_from n o w i = sym (rows_in n o w i l) in
      e (o + i) (omega arith) (omega arith) ∙ (λ k. cond (eqb (f k) p) (eu k) (cleared n a (g k) (h k))))
      (λ i l. ap₂ (λ (b : Bool) (q : Row). cond b u' (cleared n a (rows_from n most_qubits w p) q)) (ne_eqb i p (λ q. omega arith)) (rows_out n o w i l))

  pub whole : rows_of n v ≡ collapsed n a p coin (rows_of n w)
  whole =
      let ds = in_rows 0 r (rows_from n most_qubits w p) (sym (rows_in n most_qubits w p pn)) refl (omega arith) (λ s h l. low_row s (omega arith)) in
      let ss = in_rows most_qubits (settled a coin) (settled a coin) refl refl (omega arith) (λ s h l. high_row s h (omega arith) (eqb (s % most_qubits) p) refl) in
      λ k. record { destabilizer = λ i. ds i k; stabilizer = λ i. ss i k }
