-- Records of four states that are alike, place by place: outcomes of the same kind, signs, or equal bytes. Assumes nothing.
use mathlib.Core.Path.{◌≡◌, refl, ◌∙◌, ap}
use mathlib.Core.Bool.{Bool, true, false, cond, ◌&&◌}
use mathlib.Core.List.{List, map}
use Prim.Native.Nat.{ℕ, zero, suc, ◌+◌, ◌-◌, ◌*◌, ◌/◌, ◌%◌, ◌≤◌, ◌<◌}
use native.Mathlib.Nat.{le_of_suc-le-suc}
use native.Mathlib.Omega.{arith}
use lib.Dec.{eqb, ltb}
use lib.ListN.{length, get_or, length-map}
use borrow.Author.Tests.{ltb-true, ltb-false, eqb-true}
use Rattle.pauli.specs.Letters.{◌⊕◌}
use Rattle.pauli.specs.Rows.{Row}
use Rattle.pauli.specs.Texts.{sign_byte, letter_byte, listed, row_text}
use Rattle.clifford.specs.Tableau.{Rows, numbered}
use Rattle.clifford.specs.declared.Outcome.{Outcome}
use Rattle.clifford.proofs.Alike.{RowAlike, RowsAlike, OutcomeAlike, AllAlike, done, more, one_length}
use Rattle.records.specs.Record.{mark, trailer, record_of}
use Rattle.records.proofs.Bytes.{mark_byte, row_byte, trailer_byte}
use Rattle.demands.specs.Alike.{sign_place}

-- four bytes that are characters of outcomes that are alike
pub record OutcomesAt (a b c d : ℕ) : Type 0 where
  pub of_a : Outcome
  pub of_b : Outcome
  pub of_c : Outcome
  pub of_d : Outcome
  pub alike : OutcomeAlike of_a of_b of_c of_d
  pub a_is : a ≡ mark of_a
  pub b_is : b ≡ mark of_b
  pub c_is : c ≡ mark of_c
  pub d_is : d ≡ mark of_d

marks_at : {a b c d : List Outcome} → AllAlike OutcomeAlike a b c d → (k : ℕ) → k < length a → OutcomesAt (get_or (map mark a) k 0) (get_or (map mark b) k 0) (get_or (map mark c) k 0) (get_or (map mark d) k 0)
marks_at done k l = absurd (omega arith)
marks_at (more {a} {b} {c} {d} r s) zero l = record { of_a = a; of_b = b; of_c = c; of_d = d; alike = r; a_is = refl; b_is = refl; c_is = refl; d_is = refl }
marks_at (more r s) (suc k) l = marks_at s k (le_of_suc-le-suc l)

-- four bytes that are signs, the last of them the exclusive-or of the others
pub record SignsAt (a b c d : ℕ) : Type 0 where
  pub of_a : Bool
  pub of_b : Bool
  pub of_c : Bool
  pub of_d : Bool
  pub alike : of_d ≡ of_a ⊕ of_b ⊕ of_c
  pub a_is : a ≡ sign_byte of_a
  pub b_is : b ≡ sign_byte of_b
  pub c_is : c ≡ sign_byte of_c
  pub d_is : d ≡ sign_byte of_d

pub record EqualAt (a b c d : ℕ) : Type 0 where
  pub second : b ≡ a
  pub third : c ≡ a
  pub fourth : d ≡ a

-- byte p of the texts of four rows that are alike
row_sign : (n : ℕ) {a b c d : Row} → RowAlike a b c d → (p : ℕ) → p ≡ 0 → SignsAt (get_or (row_text n a) p 0) (get_or (row_text n b) p 0) (get_or (row_text n c) p 0) (get_or (row_text n d) p 0)
row_sign n {a} {b} {c} {d} r p e = rw e (record { of_a = a.minus; of_b = b.minus; of_c = c.minus; of_d = d.minus; alike = r.signs; a_is = refl; b_is = refl; c_is = refl; d_is = refl })

row_letter : (n : ℕ) {a b c d : Row} → RowAlike a b c d → (p : ℕ) → (p ≡ 0 → ⊥) → EqualAt (get_or (row_text n a) p 0) (get_or (row_text n b) p 0) (get_or (row_text n c) p 0) (get_or (row_text n d) p 0)
row_letter n r zero h = absurd (h refl)
row_letter n r (suc j) h = record { second = letters r.second; third = letters r.third; fourth = letters r.fourth }
  where
    letters : {k l : ℕ → _} → k ≡ l → get_or (listed (λ i. letter_byte (k i)) n) j 0 ≡ get_or (listed (λ i. letter_byte (l i)) n) j 0
    letters e = ap (λ m. get_or (listed (λ i. letter_byte (m i)) n) j 0) e

numbered_alike : (n : ℕ) {a b c d : Rows} → RowsAlike a b c d → (i : ℕ) → RowAlike (numbered n a i) (numbered n b i) (numbered n c i) (numbered n d i)
numbered_alike n {a} {b} {c} {d} r i = go (ltb i n)
  where
    go : (t : Bool) → RowAlike (cond t (a.destabilizer i) (a.stabilizer (i - n))) (cond t (b.destabilizer i) (b.stabilizer (i - n))) (cond t (c.destabilizer i) (c.stabilizer (i - n))) (cond t (d.destabilizer i) (d.stabilizer (i - n)))
    go true = r.destabilizers i
    go false = r.stabilizers (i - n)

-- the bytes of a record with so many outcomes
module _ (n count : ℕ) (o : List Outcome) (t : Rows) (e : length o ≡ count) where
  many : length (map mark o) ≡ count
  many = length-map o mark ∙ e

  outcome_byte : (k : ℕ) → k < count → get_or (record_of n o t) k 0 ≡ get_or (map mark o) k 0
  outcome_byte k l = mark_byte n (map mark o) t k (omega (arith, many))

  byte_in_row : (k : ℕ) → count ≤ k → k < count + 2 * (n * (n + 1)) → get_or (record_of n o t) k 0 ≡ get_or (row_text n (numbered n t ((k - count) / (n + 1)))) ((k - count) % (n + 1)) 0
  byte_in_row k h l =
      row_byte n (map mark o) t k (omega (arith, many)) (omega (arith, many))
      ∙ ap (λ (m : ℕ). get_or (row_text n (numbered n t ((k - m) / (n + 1)))) ((k - m) % (n + 1)) 0) many

  byte_in_trailer : (k : ℕ) → count + 2 * (n * (n + 1)) ≤ k → get_or (record_of n o t) k 0 ≡ get_or (trailer n count) (k - (count + 2 * (n * (n + 1)))) 0
  byte_in_trailer k h = trailer_byte n (map mark o) t k (omega (arith, many)) ∙ ap (λ (m : ℕ). get_or (trailer n m) (k - (m + 2 * (n * (n + 1)))) 0) many

-- what the four bytes at place k are
pub record PlaceAlike (n count k a b c d : ℕ) : Type 0 where
  pub outcome : k < count → OutcomesAt a b c d
  pub sign : count ≤ k → sign_place n count k ≡ true → SignsAt a b c d
  pub other : count ≤ k → sign_place n count k ≡ false → EqualAt a b c d

module _ (n : ℕ) {oa ob oc od : List Outcome} {ta tb tc td : Rows} (outcomes : AllAlike OutcomeAlike oa ob oc od) (rows : RowsAlike ta tb tc td) (k : ℕ) where
  abbrev count : ℕ
  count = length oa

  abbrev p : ℕ
  p = (k - count) % (n + 1)

  lens : (length ob ≡ count) × (length oc ≡ count) × (length od ≡ count)
  lens = one_length outcomes

  abbrev BytesAs : (ℕ → ℕ → ℕ → ℕ → Type 0) → Type 0
  BytesAs R = R (get_or (record_of n oa ta) k 0) (get_or (record_of n ob tb) k 0) (get_or (record_of n oc tc) k 0) (get_or (record_of n od td) k 0)

  in_outcomes : k < count → BytesAs OutcomesAt
  in_outcomes l = rw (outcome_byte n count oa ta refl k l, outcome_byte n count ob tb lens.0 k l, outcome_byte n count oc tc lens.1 k l, outcome_byte n count od td lens.2 k l) (marks_at outcomes k l)

  in_rows : (R : ℕ → ℕ → ℕ → ℕ → Type 0) → count ≤ k → k < count + 2 * (n * (n + 1))
      → R (get_or (row_text n (numbered n ta ((k - count) / (n + 1)))) p 0) (get_or (row_text n (numbered n tb ((k - count) / (n + 1)))) p 0) (get_or (row_text n (numbered n tc ((k - count) / (n + 1)))) p 0) (get_or (row_text n (numbered n td ((k - count) / (n + 1)))) p 0)
      → BytesAs R
  in_rows R h l x = rw (byte_in_row n count oa ta refl k h l, byte_in_row n count ob tb lens.0 k h l, byte_in_row n count oc tc lens.1 k h l, byte_in_row n count od td lens.2 k h l) x

  in_trailer : count + 2 * (n * (n + 1)) ≤ k → BytesAs EqualAt
  in_trailer h = rw (byte_in_trailer n count oa ta refl k h, byte_in_trailer n count ob tb lens.0 k h, byte_in_trailer n count oc tc lens.1 k h, byte_in_trailer n count od td lens.2 k h) (record { second = refl; third = refl; fourth = refl })

  signs : count ≤ k → (b c : Bool) → ltb k (count + 2 * (n * (n + 1))) ≡ b → eqb p 0 ≡ c → (b && c) ≡ true → BytesAs SignsAt
  signs h true true e f g = in_rows SignsAt h (ltb-true k _ e) (row_sign n (numbered_alike n rows _) p (eqb-true p 0 f))
  signs h true false e f g = absurd (let z : ◌≡◌ {A = Bool} false true = g in let y : ◌≡◌ {A = ℕ} 0 1 = cc in omega arith)
  signs h false c e f g = absurd (let z : ◌≡◌ {A = Bool} false true = g in let y : ◌≡◌ {A = ℕ} 0 1 = cc in omega arith)

  others : count ≤ k → (b c : Bool) → ltb k (count + 2 * (n * (n + 1))) ≡ b → eqb p 0 ≡ c → (b && c) ≡ false → BytesAs EqualAt
  others h true true e f g = absurd (let z : ◌≡◌ {A = Bool} true false = g in let y : ◌≡◌ {A = ℕ} 0 1 = cc in omega arith)
  others h true false e f g = in_rows EqualAt h (ltb-true k _ e) (row_letter n (numbered_alike n rows _) p (λ z. absurd (let q : eqb p 0 ≡ true = rw z in let y : ◌≡◌ {A = ℕ} 0 1 = cc in omega arith)))
  others h false c e f g = in_trailer (ltb-false k _ e)

  pub place_alike : BytesAs (PlaceAlike n count k)
  place_alike = record {
    outcome = in_outcomes;
    sign = λ h e. signs h (ltb k (count + 2 * (n * (n + 1)))) (eqb p 0) refl refl e;
    other = λ h e. others h (ltb k (count + 2 * (n * (n + 1)))) (eqb p 0) refl refl e;
  }
