-- A reading at a position is put together from readings of its parts. Assumes nothing.
use mathlib.Core.Bool.{true}
use mathlib.Core.List.{List, [], ◌∷◌}
use Rattle.std.specs.Prelude.{Option, None, Some}
use mathlib.Core.Path.{◌≡◌, ◌∙◌, ap}
use Prim.Native.Nat.{ℕ, ◌+◌, ◌≤◌}
use native.Mathlib.Omega.{arith}
use lib.ListN.{drop}
use Rattle.clifford.specs.declared.Op.{Op}
use Rattle.circuit.specs.Lines.{Found, found, malformed, closed_by, end_byte, number, with_one, qubit, op_line}
use Rattle.circuit.specs.Parts.Reading.{Stands, Has, ReadsAt, Spelled}

-- f reads here what g reads further on
pub moved :
    {A : Type 0} (f g : List ℕ → Found A) (s : List ℕ) (at next : ℕ) (r : Option (A × ℕ)) → f (drop at s) ≡ g (drop next s) → at ≤ next → ReadsAt g s next r → ReadsAt f s at r
moved f g s at next (Some (value, last)) e h r = record { reads = e ∙ r.reads; after = omega (arith, r.after); within = r.within }
moved f g s at next None e h r = e ∙ r

-- what is found is one value, with one rest behind it
pub same_found : {A : Type 0} (a b : A) (s t : List ℕ) → found a s ≡ found b t → (b ≡ a) × (t ≡ s)
same_found a b s t e = (cc, cc)

-- the rest after an end byte, and after a space
abbrev pub closing : {A : Type 0} → A → Option (List ℕ) → Found A
closing a o = elim o [ Some rest ↦ found a rest | None ↦ malformed ]

abbrev pub spacing : Option (List ℕ) → Found ℕ
spacing o = elim o [ Some rest ↦ number rest | None ↦ malformed ]

module _ (s : List ℕ) (at : ℕ) where
  pub closed : {A : Type 0} (a : A) → Has s at 10 true → Stands (closed_by (end_byte ∷ []) a) s at a (at + 1)
  closed a h = record { reads = ap (closing a) h.1; after = omega arith; within = omega (arith, h.0) }

  pub spaced : Has s at 32 true → qubit (drop at s) ≡ number (drop (at + 1) s)
  spaced h = ap spacing h.1

-- the line of an operation whose name is read
module _ (s : List ℕ) (at : ℕ) where
  pub one_line :
      (f : ℕ → Op) (behind a next : ℕ) (r : Option (Op × ℕ))
      → Spelled s at (with_one f) behind → Stands qubit s behind a next → ReadsAt (closed_by (end_byte ∷ []) (f a)) s next r → ReadsAt op_line s at r
  one_line f behind a next r n q = moved op_line (closed_by (end_byte ∷ []) (f a)) s at next r (rw (n.names_it, q.reads)) (omega (arith, n.after, q.after))
