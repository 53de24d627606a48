-- The pass over the columns: what holds of the words after j of them, and of all rows after the last. Assumes nothing.
use mathlib.Core.Path.{◌≡◌, refl, sym, ap, ap₂, ◌∙◌}
use mathlib.Core.Bool.{Bool, true, false, ◌&&◌, cond}
use mathlib.Core.List.{List, [], ◌∷◌}
use mathlib.Core.Logic.{◌≢◌}
use Prim.Native.Nat.{ℕ, ◌+◌, ◌*◌, ◌/◌, ◌%◌, ◌^◌, ◌≤◌, ◌<◌}
use native.Mathlib.Nat.{mod-lt, zero-lt-suc}
use native.Mathlib.Numerals.{add-one}
use native.Mathlib.Omega.{arith}
use borrow.Author.Count.{below_more}
use lib.Bits.{bit_and, bit_or}
use lib.Dec.{eqb, ltb}
use Rattle.std.proofs.lemmas.Bool.Decides.{nat_tests}
use lib.ListN.{get_or}
use borrow.Author.Tests.{eqb-true, eqb-false}
use Rattle.limits.specs.Limits.{most_qubits}
use Rattle.words.specs.Bit.{bit}
use Rattle.pauli.specs.Letters.{Letter, I, letter, Power, i0, ◌⊕◌, ◌·◌, power, ◌⊞◌}
use Rattle.pauli.specs.Rows.{Letters, Row, total, minus_sign, times_row}
use Rattle.pauli.proofs.Cases.{tested, bit as bool, ltr, pow}
use Rattle.pauli.proofs.Sums.{sum-cong}
use Rattle.pauli.proofs.LetterLaws.{xor_adds, power_adds}
use Rattle.pauli.proofs.RowLaws.{times_minus}
use Rattle.clifford.specs.Tableau.{blank}
use Rattle.packing.specs.View.{row_count, sign_words, Words, bit_at, letter_at, row_at}
use Rattle.packing.specs.Parts.Changes.{Changed}
use Rattle.groups.specs.Parts.Rows.{row_bit}
use Rattle.packing.proofs.Groups.{beside_signs}
use Rattle.packing.proofs.Views.{cond_same, row_eq, guard, guard_in, guard_out, guarded}
use Rattle.multiply_rows.specs.declared.Powers.{Powers}
use Rattle.multiply_rows.specs.Parts.Steps.{power_in_bits, count_of, Lettered, if_kept, Timed, erased, Keeps, without, Multiplied}
use Rattle.multiply_rows.proofs.Bitwise.{keep, bit-keep, kept_law, sign_law, count_sign, no_letter}

-- the letters of row s, but the two rows of number p are all I
abbrev pub kept : ℕ → List ℕ → ℕ → Letters
kept p w s = λ k. cond (eqb (s % most_qubits) p) I (letter_at w s k)

-- after j columns of the words w₀, under the masks m: q has the letters of the row that is multiplied with
pub record Multiplying (p : ℕ) (m : ℕ → Bool) (q : Letters) (w₀ : List ℕ) (j : ℕ) (w : List ℕ) (hi lo : ℕ → Bool) : Type 0 where
  pub words : Words w
  pub done : (k s : ℕ) → k < j → s < row_count → letter_at w s k ≡ cond (m s) (kept p w₀ s k · q k) (kept p w₀ s k)
  pub rest : (k : ℕ) → 8 * j ≤ k → get_or w k 0 ≡ get_or w₀ k 0
  pub counts : (s : ℕ) → s < row_count → power_in_bits (hi s) (lo s) ≡ cond (m s) (total j (kept p w₀ s) q) i0

pub multiply_none : (p : ℕ) (m : ℕ → Bool) (q : Letters) (w₀ : List ℕ) → Words w₀ → (hi lo : ℕ → Bool) → ((s : ℕ) → s < row_count → hi s ≡ false) → ((s : ℕ) → s < row_count → lo s ≡ false) → Multiplying p m q w₀ 0 w₀ hi lo
multiply_none p m q w₀ lw hi lo eh el = record {
  words = lw;
  done = λ k s l. absurd (omega arith);
  rest = λ k l. refl;
  counts = λ s l. ap₂ power_in_bits (eh s l) (el s l) ∙ sym (cond_same (m s) i0);
}

count_more : (b : Bool) (c p t : Power) → c ≡ cond b t i0 → cond b (c ⊞ p) c ≡ cond b (t ⊞ p) i0
count_more true c p t e = ap (λ (d : Power). d ⊞ p) e
count_more false c p t e = e

module _ (p : ℕ) (m : ℕ → Bool) (q : Letters) (w₀ : List ℕ) (j : ℕ) (w : List ℕ) (hi lo : ℕ → Bool) (a : Multiplying p m q w₀ j w hi lo) (jl : j < most_qubits) where
  abbrev count : ℕ → Power
  count s = power_in_bits (hi s) (lo s)

  -- one more column, whose letters are replaced
  multiply_column : {f : ℕ → Letter} {w' : List ℕ} (hi' lo' : ℕ → Bool) → Lettered j f w w'
      → ((s : ℕ) → s < row_count → f s ≡ cond (m s) (kept p w₀ s j · q j) (kept p w₀ s j))
      → ((s : ℕ) → s < row_count → power_in_bits (hi' s) (lo' s) ≡ cond (m s) (count s ⊞ power (kept p w₀ s j) (q j)) (count s))
      → Multiplying p m q w₀ (j + 1) w' hi' lo'
  multiply_column {f} {w'} hi' lo' c letters counts = record {
    words = c.words;
    done = λ k s l sl. below_more (λ (i : ℕ). letter_at w' s i ≡ cond (m s) (kept p w₀ s i · q i) (kept p w₀ s i)) j (λ i h. before i s sl h) (c.letters s sl ∙ letters s sl) k l;
    rest = λ k l. c.behind k (omega arith) ∙ a.rest k (omega arith);
    counts = λ s sl. counts s sl
        ∙ count_more (m s) (count s) (power (kept p w₀ s j) (q j)) (total j (kept p w₀ s) q) (a.counts s sl)
        ∙ ap (λ (n : ℕ). cond (m s) (total n (kept p w₀ s) q) i0) (sym (add-one j));
  }
    where
      before : (k s : ℕ) → s < row_count → k < j → letter_at w' s k ≡ cond (m s) (kept p w₀ s k · q k) (kept p w₀ s k)
      before k s sl l =
          ap₂ letter (ap (bit (s % 64)) (c.before (8 * k + s / 64) (omega arith))) (ap (bit (s % 64)) (c.before (8 * k + 4 + s / 64) (omega arith))) ∙ a.done k s l sl

  -- the column before it
  same_bit : (o s : ℕ) → 8 * j ≤ o → bit_at w o s ≡ bit_at w₀ o s
  same_bit o s l = ap (bit (s % 64)) (a.rest (o + s / 64) (omega arith))

  pub same : (s : ℕ) → letter_at w s j ≡ letter_at w₀ s j
  same s = ap₂ letter (same_bit (8 * j) s (omega arith)) (same_bit (8 * j + 4) s (omega arith))

  -- all rows are multiplied at once
  module _ (k px pz : ℕ → Bool) (keeps : Keeps p k) (eq : (s : ℕ) → s < row_count → letter (px s) (pz s) ≡ q j) where
    old : (s : ℕ) → s < row_count → if_kept j k w s ≡ kept p w₀ s j
    old s l =
        ap (λ (b : Bool). letter (bit_at w (8 * j) s && b) (bit_at w (8 * j + 4) s && b)) (keeps s l)
        ∙ kept_law (bit_at w (8 * j) s) (bit_at w (8 * j + 4) s) (eqb (s % most_qubits) p) ∙ ap (cond (eqb (s % most_qubits) p) I) (same s)

    pub multiply_more : {c r : Powers} {w' : List ℕ} → Timed j px pz k m c r w w' → ((s : ℕ) → s < row_count → count_of c s ≡ count s) → Multiplying p m q w₀ (j + 1) w' (row_bit r.hi) (row_bit r.lo)
    multiply_more {c} {r} t e =
        multiply_column (row_bit r.hi) (row_bit r.lo) t.column
        (λ s l. ap₂ (λ (u v : Letter). cond (m s) (u · v) u) (old s l) (eq s l))
        (λ s l. t.counts s l ∙ (λ i. cond (m s) (e s l i ⊞ power (old s l i) (eq s l i)) (e s l i)))

  -- where the row that is multiplied with has I nothing changes, but that the partner is cleared
  module _ (nothing : q j ≡ I) where
    times_I : (b : Bool) (l : Letter) → l ≡ cond b (l · I) l
    times_I = tested (bool ∷ ltr ∷ []) ltr _ _ tt

    power_I : (b : Bool) (c : Power) (l : Letter) → c ≡ cond b (c ⊞ power l I) c
    power_I = tested (bool ∷ pow ∷ ltr ∷ []) pow _ _ tt

    passed : {f : ℕ → Letter} {w' : List ℕ} → Lettered j f w w' → ((s : ℕ) → s < row_count → f s ≡ kept p w₀ s j) → Multiplying p m q w₀ (j + 1) w' hi lo
    passed c e =
        multiply_column hi lo c
        (λ s l. e s l ∙ times_I (m s) (kept p w₀ s j) ∙ ap (λ (t : Letter). cond (m s) (kept p w₀ s j · t) (kept p w₀ s j)) (sym nothing))
        (λ s l. power_I (m s) (count s) (kept p w₀ s j) ∙ ap (λ (t : Letter). cond (m s) (count s ⊞ power (kept p w₀ s j) t) (count s)) (sym nothing))

-- stabilizer 64 g + i is bit i of word 2 + g
pub at_bit : (g i : ℕ) → g < 2 → i < 64 → (w : List ℕ) (o : ℕ) → bit i (get_or w (o + (2 + g)) 0) ≡ bit_at w o (most_qubits + (64 * g + i))
at_bit g i gl il w o =
    let e : i ≡ (most_qubits + (64 * g + i)) % 64 = omega arith in
    let f : 2 + g ≡ (most_qubits + (64 * g + i)) / 64 = omega arith in
    ap₂ (λ (k t : ℕ). bit k (get_or w (o + t) 0)) e f

-- where the row that is multiplied with is that
module _ (g i : ℕ) (gl : g < 2) (il : i < 64) (m : ℕ → Bool) (w₀ : List ℕ) (j : ℕ) (w : List ℕ) (hi lo : ℕ → Bool)
    (a : Multiplying (64 * g + i) m (letter_at w₀ (most_qubits + (64 * g + i))) w₀ j w hi lo) where
  pub sign_of : (u : ℕ) (minus : ℕ → Bool) → ((k : ℕ) → k < 64 → bit k u ≡ bit i (get_or w (sign_words + (2 + g)) 0)) → ((s : ℕ) → s < row_count → minus s ≡ bit (s % 64) u) → j ≤ most_qubits → (s : ℕ) → s < row_count
      → minus s ≡ bit_at w₀ sign_words (most_qubits + (64 * g + i))
  sign_of u minus e f h s l = f s l ∙ e (s % 64) (mod-lt s (zero-lt-suc 63)) ∙ at_bit g i gl il w sign_words ∙ ap (bit ((most_qubits + (64 * g + i)) % 64)) (a.rest (sign_words + (most_qubits + (64 * g + i)) / 64) (omega arith))

  module _ (jl : j < most_qubits) where
    here : letter (bit i (get_or w (8 * j + (2 + g)) 0)) (bit i (get_or w (8 * j + 4 + (2 + g)) 0)) ≡ letter_at w₀ (most_qubits + (64 * g + i)) j
    here = ap₂ letter (at_bit g i gl il w (8 * j)) (at_bit g i gl il w (8 * j + 4)) ∙ same (64 * g + i) m (letter_at w₀ (most_qubits + (64 * g + i))) w₀ j w hi lo a jl (most_qubits + (64 * g + i))

    pub letter_of : (x z : ℕ) (px pz : ℕ → Bool) → ((k : ℕ) → k < 64 → bit k x ≡ bit i (get_or w (8 * j + (2 + g)) 0)) → ((k : ℕ) → k < 64 → bit k z ≡ bit i (get_or w (8 * j + 4 + (2 + g)) 0))
        → ((s : ℕ) → s < row_count → px s ≡ bit (s % 64) x) → ((s : ℕ) → s < row_count → pz s ≡ bit (s % 64) z) → (s : ℕ) → s < row_count → letter (px s) (pz s) ≡ letter_at w₀ (most_qubits + (64 * g + i)) j
    letter_of x z px pz ex ez fx fz s l = let k : s % 64 < 64 = mod-lt s (zero-lt-suc 63) in ap₂ letter (fx s l ∙ ex (s % 64) k) (fz s l ∙ ez (s % 64) k) ∙ here

    pub none_there : (bit_and (bit_or (get_or w (8 * j + (2 + g)) 0) (get_or w (8 * j + 4 + (2 + g)) 0) / 2 ^ i) 1 ≡ 1 → ⊥) → letter_at w₀ (most_qubits + (64 * g + i)) j ≡ I
    none_there h = sym here ∙ no_letter i (get_or w (8 * j + (2 + g)) 0) (get_or w (8 * j + 4 + (2 + g)) 0) h

-- where that row has I, the partner's word alone is changed
module _ (g i : ℕ) (gl : g < 2) (il : i < 64) (m : ℕ → Bool) (w₀ : List ℕ) (j : ℕ) (w : List ℕ) (hi lo : ℕ → Bool)
    (a : Multiplying (64 * g + i) m (letter_at w₀ (most_qubits + (64 * g + i))) w₀ j w hi lo) (jl : j < most_qubits) (nothing : letter_at w₀ (most_qubits + (64 * g + i)) j ≡ I) where
  left : (s : ℕ) → s < row_count → erased j g (keep i) w s ≡ kept (64 * g + i) w₀ s j
  left s l = go (eqb (s / 64) g) refl
    where
      now : letter_at w s j ≡ letter_at w₀ s j
      now = same (64 * g + i) m (letter_at w₀ (most_qubits + (64 * g + i))) w₀ j w hi lo a jl s

      hit : s / 64 ≡ g → eqb (s % 64) i ≡ eqb (s % most_qubits) (64 * g + i)
      hit e = grind (arith, nat_tests)

      other : (b : Bool) → eqb (s % most_qubits) (64 * g + i) ≡ b → s / 64 ≢ g → letter_at w₀ s j ≡ cond b I (letter_at w₀ s j)
      other b f d =
          let e : s % most_qubits ≡ 64 * g + i → s ≡ most_qubits + (64 * g + i) = λ k. omega arith in
          grind (arith, nat_tests, e, nothing)

      go : (b : Bool) → eqb (s / 64) g ≡ b → cond b (letter (bit_at w (8 * j) s && bit (s % 64) (keep i)) (bit_at w (8 * j + 4) s && bit (s % 64) (keep i))) (letter_at w s j) ≡ kept (64 * g + i) w₀ s j
      go true e =
          let k : s / 64 ≡ g = eqb-true (s / 64) g e in
          ap (λ (b : Bool). letter (bit_at w (8 * j) s && b) (bit_at w (8 * j + 4) s && b)) (bit-keep (s % 64) i (mod-lt s (zero-lt-suc 63)) il)
          ∙ kept_law (bit_at w (8 * j) s) (bit_at w (8 * j + 4) s) (eqb (s % 64) i) ∙ ap₂ (λ (b : Bool) (t : Letter). cond b I t) (hit k) now
      go false e = now ∙ other (eqb (s % most_qubits) (64 * g + i)) refl (eqb-false (s / 64) g e)

  pub multiply_clear : {w' : List ℕ} → Lettered j (erased j g (keep i) w) w w' → Multiplying (64 * g + i) m (letter_at w₀ (most_qubits + (64 * g + i))) w₀ (j + 1) w' hi lo
  multiply_clear c = passed (64 * g + i) m (letter_at w₀ (most_qubits + (64 * g + i))) w₀ j w hi lo a jl nothing c left

-- the same with other names
pub multiplying_same : {p : ℕ} {m : ℕ → Bool} {q : Letters} {w₀ : List ℕ} {j : ℕ} {w w' : List ℕ} {hi lo hi' lo' : ℕ → Bool}
    → Multiplying p m q w₀ j w hi lo → w' ≡ w → hi' ≡ hi → lo' ≡ lo → Multiplying p m q w₀ j w' hi' lo'
multiplying_same a ew eh el = rw (ew, eh, el) a

-- a row without those of number p, by its sign and letters
without_is : (n p : ℕ) (w : List ℕ) (s : ℕ) → without n p w s ≡ record { minus = cond (eqb (s % most_qubits) p) false (bit_at w sign_words s); letters = guard n (kept p w s) }
unfolding row_at
without_is n p w s = go (eqb (s % most_qubits) p)
  where
    go : (b : Bool) → cond b blank (row_at n w s) ≡ record { minus = cond b false (bit_at w sign_words s); letters = guard n (λ k. cond b I (letter_at w s k)) }
    go true = row_eq _ _ refl (λ j. sym (cond_same (ltb j n) I))
    go false = refl

total_guard : (n : ℕ) (f g : Letters) → total n (guard n f) (guard n g) ≡ total n f g
total_guard n f g = sum-cong power_adds _ _ n (λ k l. ap₂ power (guard_in n f k l) (guard_in n g k l))

mul_guard : (n : ℕ) (f g h : Letters) (j : ℕ) → ((k : ℕ) → k < n → h k ≡ f k · g k) → guard n h j ≡ guard n f j · guard n g j
mul_guard n f g h j e =
    guarded n h j _ (λ l. e j l ∙ ap₂ ◌·◌ (sym (guard_in n f j l)) (sym (guard_in n g j l)))
    (λ l. ap₂ ◌·◌ (guard_out n f j l) (guard_out n g j l))

-- after all columns, with the signs made; row r is multiplied with, and f has the new signs
module _ (p : ℕ) (m : ℕ → Bool) (r : ℕ) (w₀ w end : List ℕ) (n : ℕ) (hi lo : ℕ → Bool) (nl : n ≤ most_qubits) (a : Multiplying p m (letter_at w₀ r) w₀ n w hi lo)
    (k minus f : ℕ → Bool) (keeps : Keeps p k) (em : (s : ℕ) → s < row_count → minus s ≡ bit_at w₀ sign_words r)
    (ef : (s : ℕ) → s < row_count → f s ≡ (bit_at w sign_words s && k s) ⊕ (m s && (hi s ⊕ minus s))) (stored : Changed sign_words f w end) where
  abbrev new_sign : ℕ → Bool
  new_sign s = cond (eqb (s % most_qubits) p) false (bit_at w₀ sign_words s) ⊕ (m s && bit_at w₀ sign_words r) ⊕ (m s && hi s)

  made : (s : ℕ) → s < row_count → bit_at end sign_words s ≡ new_sign s
  made s l =
      stored.bits s l ∙ ef s l ∙ ap (λ (b : Bool). (bit_at w sign_words s && b) ⊕ (m s && (hi s ⊕ minus s))) (keeps s l)
      ∙ sign_law (bit_at w sign_words s) (eqb (s % most_qubits) p) (m s) (hi s) (minus s)
      ∙ ap₂ (λ (b c : Bool). cond (eqb (s % most_qubits) p) false b ⊕ (m s && c) ⊕ (m s && hi s)) (ap (bit (s % 64)) (a.rest (sign_words + s / 64) (omega arith))) (em s l)

  letters : (s j : ℕ) → s < row_count → j < most_qubits → letter_at end s j ≡ letter_at w s j
  letters s j l jl = ap₂ letter (beside_signs stored (8 * j) s l (omega arith)) (beside_signs stored (8 * j + 4) s l (omega arith))

  pub multiplied : Multiplied n p m (row_at n w₀ r) w₀ end
  unfolding row_at
  multiplied = record {
    words = stored.words;
    row = λ s l. rw without_is (go s l (m s) refl (λ j b. a.done j s b l) (a.counts s l));
    letters = λ s j l h b. letters s j l b
        ∙ ap₂ letter (ap (bit (s % 64)) (a.rest (8 * j + s / 64) (omega arith))) (ap (bit (s % 64)) (a.rest (8 * j + 4 + s / 64) (omega arith)));
  }
    where
      q : Letters
      q = letter_at w₀ r

      sign : (s : ℕ) → s < row_count → (b : Bool) → m s ≡ b
          → bit_at end sign_words s ≡ cond (eqb (s % most_qubits) p) false (bit_at w₀ sign_words s) ⊕ (b && bit_at w₀ sign_words r) ⊕ (b && hi s)
      sign s l b e = made s l ∙ ap (λ (c : Bool). cond (eqb (s % most_qubits) p) false (bit_at w₀ sign_words s) ⊕ (c && bit_at w₀ sign_words r) ⊕ (c && hi s)) e

      go : (s : ℕ) → s < row_count → (b : Bool) → m s ≡ b → ((j : ℕ) → j < n → letter_at w s j ≡ cond b (kept p w₀ s j · q j) (kept p w₀ s j))
          → power_in_bits (hi s) (lo s) ≡ cond b (total n (kept p w₀ s) q) i0
          → row_at n end s
          ≡ (let u : Row = record { minus = cond (eqb (s % most_qubits) p) false (bit_at w₀ sign_words s); letters = guard n (kept p w₀ s) } in cond b (times_row n u (row_at n w₀ r)) u)
      go s l true e d c =
          row_eq _ _
          (sign s l true e
          ∙ ap (λ (b : Bool). cond (eqb (s % most_qubits) p) false (bit_at w₀ sign_words s) ⊕ bit_at w₀ sign_words r ⊕ b)
          (sym (count_sign (hi s) (lo s)) ∙ ap minus_sign (c ∙ sym (total_guard n (kept p w₀ s) q)))
          ∙ sym (times_minus n (record { minus = cond (eqb (s % most_qubits) p) false (bit_at w₀ sign_words s); letters = guard n (kept p w₀ s) }) (row_at n w₀ r)))
          (λ j. mul_guard n (kept p w₀ s) q (letter_at end s) j (λ k h. letters s k l (omega arith) ∙ d k h))
      go s l false e d c =
          row_eq _ _ (sign s l false e ∙ xor_adds.right _ ∙ xor_adds.right _)
          (λ j. guarded n (letter_at end s) j (guard n (kept p w₀ s) j)
          (λ h. letters s j l (omega arith) ∙ d j h ∙ sym (guard_in n (kept p w₀ s) j h)) (λ h. guard_out n (kept p w₀ s) j h))
