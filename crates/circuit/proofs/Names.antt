-- The name at a position decides the operation. Assumes nothing.
use mathlib.Core.Bool.{true}
use mathlib.Core.List.{List, [], ◌∷◌}
use Rattle.std.specs.Prelude.{Option, None, Some}
use mathlib.Core.Path.{◌≡◌, refl, ◌∙◌, ap}
use Prim.Native.Nat.{ℕ, ◌+◌, ◌<◌}
use native.Mathlib.Omega.{arith}
use native.Mathlib.Nat.{add_assoc}
use lib.ListN.{length, get_or, drop}
use Rattle.clifford.specs.declared.Op.{Op}
use Rattle.circuit.specs.Lines.{Found, found, malformed, then_read, strip, space, number, Form, with_one, with_two, names, qubit, operands, named}
use Rattle.circuit.specs.Parts.Reading.{qubits, Has, Spelled}
use Rattle.circuit.proofs.Positions.{front, stripped}

-- the numbers behind a name and its space, or what the other names say
abbrev pub or_else : Form → Option (List ℕ) → Found Op → Found Op
or_else form o v = elim o [ Some rest ↦ operands form rest | None ↦ v ]

-- a name with nothing but its space to come: no other has the same bytes so far
pub spaced_qubits : (form : Form) (t : List ℕ) → or_else form (strip (space ∷ []) t) malformed ≡ qubits form t
spaced_qubits (with_one f) t = go (strip (space ∷ []) t)
  where
    go : (o : Option (List ℕ)) → or_else (with_one f) o malformed ≡ then_read (elim o [ Some rest ↦ number rest | None ↦ malformed ]) (λ a rest. found (f a) rest)
    go (Some rest) = refl
    go None = refl
spaced_qubits (with_two f) t = go (strip (space ∷ []) t)
  where
    go : (o : Option (List ℕ)) → or_else (with_two f) o malformed ≡ then_read (elim o [ Some rest ↦ number rest | None ↦ malformed ]) (λ a rest. then_read (qubit rest) (λ b more. found (f a b) more))
    go (Some rest) = refl
    go None = refl

module _ (s : List ℕ) (at : ℕ) where
  pub name_byte : (b : ℕ) → at < length s → get_or s at 0 ≡ b → named names (drop at s) ≡ named names (b ∷ drop (at + 1) s)
  name_byte b h e = rw (front s at h, e)

  -- where the bytes of a name have been read, its space decides
  pub spelled_one : (f : Form) (b : ℕ) → at < length s → get_or s at 0 ≡ b → named names (b ∷ drop (at + 1) s) ≡ or_else f (strip (space ∷ []) (drop (at + 1) s)) malformed → Spelled s at f (at + 1)
  spelled_one f b h e n = record { names_it = name_byte b h e ∙ n ∙ spaced_qubits f (drop (at + 1) s); after = omega arith; within = omega arith }

  pub spelled_two : (f : Form) (b c : ℕ) → at < length s → get_or s at 0 ≡ b → Has s (at + 1) c true → ((u : List ℕ) → named names (b ∷ c ∷ u) ≡ or_else f (strip (space ∷ []) u) malformed) → Spelled s at f (at + 2)
  spelled_two f b c h e n k =
      let u = drop (at + 1 + 1) s in
      record {
        names_it = name_byte b h e ∙ ap (λ (t : List ℕ). named names (b ∷ t)) (stripped (c ∷ []) (drop (at + 1) s) u n.1) ∙ k u ∙ spaced_qubits f u ∙ rw (add_assoc at 1 1);
        after = omega arith;
        within = omega (arith, n.0);
      }
