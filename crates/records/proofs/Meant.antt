-- What the rows of an accepted record are, said of its bytes: properly paired, independent, never minus the identity by a product, and what fixed means; and that
-- bytes of which this does not hold are refused. Assumes nothing.
use mathlib.Core.Path.{◌≡◌, refl, sym, subst}
use mathlib.Core.Bool.{Bool, true}
use mathlib.Core.List.{List}
use mathlib.Core.Logic.{◌↔◌}
use Rattle.std.specs.Prelude.{Option, None, Some}
use Prim.Native.Nat.{ℕ, ◌+◌, ◌<◌}
use borrow.Author.Tests.{lt-ltb}
use Rattle.answers.specs.Verdict.{accepted, refused}
use Rattle.choices.specs.Choices.{ProductOf}
use Rattle.choices.proofs.Products.{product-of_cong}
use Rattle.clifford.specs.Tableau.{Rows, Paired}
use Rattle.clifford.specs.Measurement.{settled}
use Rattle.clifford.specs.Generators.{tableau_of, OfStabilizers, Generators, FixedAt}
use Rattle.clifford.proofs.Fixed.{fixed_at_exactly, in_order_generators}
use Rattle.records.specs.Reading.{qubits_in, ends_in_record, outcome_count, last_record, first_bad, record_row, rows_in, first_wrong, Read, read_of}
use Rattle.records.proofs.Pairs.{none_paired}
use Rattle.records.proofs.Taken.{taken}

module _ (s : List ℕ) where
  abbrev n : ℕ
  n = qubits_in s

  abbrev rows : Rows
  rows = rows_in n (outcome_count s) (last_record s)

  same_destabilizer : (i : ℕ) → i < n → rows.destabilizer i ≡ record_row s i
  unfolding rows_in
  same_destabilizer i h = rw (lt-ltb i n h)

  same_stabilizer : (i : ℕ) → i < n → rows.stabilizer i ≡ record_row s (n + i)
  unfolding rows_in
  same_stabilizer i h = rw (lt-ltb i n h)

  right_generators : first_wrong n rows ≡ None → Generators n (record_row s)
  right_generators e = in_order_generators n rows (record_row s) same_destabilizer same_stabilizer (none_paired n rows e)

  right_fixed_at : first_wrong n rows ≡ None → (a : ℕ) → a < n → (m : Bool) → FixedAt n a rows m ↔ OfStabilizers n (record_row s) (settled a m)
  right_fixed_at e a h m = (λ f. product-of_cong n rows.stabilizer (tableau_of n (record_row s)).stabilizer n same_stabilizer (settled a m) (both.0 f), λ g. both.1 (product-of_cong n (tableau_of n (record_row s)).stabilizer rows.stabilizer n (λ i l. sym (same_stabilizer i l)) (settled a m) g))
    where
      both : FixedAt n a rows m ↔ ProductOf n rows.stabilizer n (settled a m)
      both = fixed_at_exactly n a rows h (none_paired n rows e) m

  -- bytes that end in a record with nothing but listed bytes, of which a statement fails, are refused with 11
  pub record Refused_11 : Type 0 where
    pub place : ℕ
    pub is : read_of s ≡ refused 11 place

  pub misread_refused : ends_in_record s ≡ true → first_bad n (outcome_count s) (last_record s) ≡ None → (Generators n (record_row s) → ⊥) → Refused_11
  unfolding read_of
  misread_refused ends fits fails = go (first_wrong n rows) refl
    where
      go : (o : Option ℕ) → first_wrong n rows ≡ o → Refused_11
      go None e = absurd (fails (right_generators e))
      go (Some k) e = record { place = k; is = rw (ends, fits, e) }

module _ (s : List ℕ) (r : Read) (e : read_of s ≡ accepted r) where
  pub accepted_paired : Paired r.qubits r.rows
  accepted_paired =
      let t = taken s r e in
      subst (λ (q : Read). Paired q.qubits q.rows) t.is (none_paired (qubits_in s) (rows s) t.pairs)

  -- the three statements of request m
  pub accepted_generators : Generators (qubits_in s) (record_row s)
  accepted_generators = right_generators s (taken s r e).pairs

  -- the measurement rule, on the rows that are read, finds a fixed at m exactly when Z on a with that sign is a product of the record's stabilizer rows
  pub accepted_fixed_at : (a : ℕ) → a < qubits_in s → (m : Bool) → FixedAt (qubits_in s) a r.rows m ↔ OfStabilizers (qubits_in s) (record_row s) (settled a m)
  accepted_fixed_at a h m = subst (λ (q : Read). FixedAt (qubits_in s) a q.rows m ↔ OfStabilizers (qubits_in s) (record_row s) (settled a m)) (taken s r e).is (right_fixed_at s (taken s r e).pairs a h m)
