-- The line of a gate on two qubits, put together from its bytes. Assumes nothing.
use mathlib.Core.Bool.{Bool, true, false, cond}
use mathlib.Core.List.{List, ◌∷◌}
use mathlib.Core.Path.{◌≡◌, refl, ◌∙◌, ap}
use Prim.Native.Nat.{ℕ, ◌+◌, ◌≤◌, ◌<◌}
use native.Mathlib.Omega.{arith}
use borrow.Author.Tests.{lt-ltb, ne_eqb}
use lib.Dec.{eqb}
use lib.ListN.{length, get_or, drop}
use Rattle.clifford.specs.declared.Two.{Two}
use Rattle.clifford.specs.declared.Gate.TheVariants.{Two as two}
use Rattle.clifford.specs.declared.Op.TheVariants.{Gate as apply}
use Rattle.clifford.specs.declared.Two.TheVariants.{Cx, Cz}
use Rattle.circuit.specs.Lines.{space, is_digit, with_two, names, qubit, operands, named}
use Rattle.circuit.specs.Parts.Reading.{qubits, Stands, Has}
use Rattle.quick_lines.specs.Parts.Lines.{second_letter, digits_at, EndsBy, Allowed}
use Rattle.circuit.proofs.Positions.{front, strip_same}
use Rattle.circuit.proofs.Names.{name_byte}
use Rattle.circuit.proofs.Readings.{closed}

pub named_two : (g : Two) (t : List ℕ) → named names (67 ∷ second_letter g ∷ space ∷ t) ≡ operands (with_two (λ a b. apply (two g a b))) t
named_two Cx t = refl
named_two Cz t = refl

pub digits_few : (s : List ℕ) (at stop : ℕ) → digits_at s at stop ≤ 3
digits_few s at stop = go (eqb (get_or s (at + 4) 0) stop) (is_digit (get_or s (at + 2) 0))
  where
    go : (a b : Bool) → cond a 3 (cond b 2 1) ≤ 3
    go true b = omega arith
    go false true = omega arith
    go false false = omega arith

module _ (s : List ℕ) (at n : ℕ) (h : at + 11 ≤ length s) where
  ends_at : (next : ℕ) → next < length s → get_or s next 0 ≡ 10 → Has s next 10 true
  ends_at next l e = (l, strip_same s next 10 l e)

  pub usual_two : (g : Two) (a b : ℕ) → get_or s at 0 ≡ 67 → get_or s (at + 1) 0 ≡ second_letter g
      → (front_is : ℕ) → front_is ≡ 3 + digits_at s (at + 2) 32 → EndsBy s (at + 2) 32 a → EndsBy s (at + front_is) 10 b → a < n → b < n → (a ≡ b → ⊥)
      → Allowed s at n (apply (two g a b)) (front_is + 2 + digits_at s (at + front_is) 10)
  usual_two g a b e c v ev p q la lb d =
      let w = digits_at s (at + v) 10 in
      let y : at + 2 + 1 + digits_at s (at + 2) 32 ≡ at + v = omega (arith, ev) in
      let p' : Stands qubit s (at + 2) a (at + v) = rw y at p.stands in
      let few : v ≤ 6 = omega (arith, ev, digits_few s (at + 2) 32) in
      let last = at + v + 1 + w in
      let z : at + (v + 2 + w) ≡ last + 1 = omega arith in
      record {
        stands = rw z (record {
          reads = rw (names_at, p'.reads, q.stands.reads) (closed s last (apply (two g a b)) (ends_at last (omega (arith, few, digits_few s (at + v) 10)) q.stops)).reads;
          after = omega arith;
          within = omega (arith, few, digits_few s (at + v) 10);
        });
        below = rw (lt-ltb a n la, lt-ltb b n lb);
        parted = rw (ne_eqb a b d);
      }
    where
      names_at : named names (drop at s) ≡ qubits (with_two (λ x y. apply (two g x y))) (drop (at + 2) s)
      names_at =
          let x : at + 1 + 1 ≡ at + 2 = omega arith in
          let f : drop (at + 2) s ≡ space ∷ drop (at + 2 + 1) s = front s (at + 2) (omega arith) ∙ ap (λ (c : ℕ). c ∷ drop (at + 2 + 1) s) p.spaced in
          name_byte s at 67 (omega arith) e ∙ ap (λ (t : List ℕ). named names (67 ∷ t)) (front s (at + 1) (omega arith))
          ∙ rw (c, x, f) (named_two g (drop (at + 2 + 1) s))
