-- The order in which the names are listed does not matter to any text: a name ends at its space, so that of names without a space and no two alike at most one stands
-- at the front of a line. Assumes nothing.
use mathlib.Core.Bool.{Bool, true, false, ◌&&◌, not, cond}
use mathlib.Core.List.{List, [], ◌∷◌, ◌++◌}
use Rattle.std.specs.Prelude.{Option, None, Some}
use mathlib.Core.Path.{◌≡◌, refl, sym, ◌∙◌, ap}
use Prim.Native.Nat.{ℕ, ◌+◌, ◌*◌}
use native.Mathlib.Omega.{arith}
use borrow.Author.Tests.{eq-eqb}
use lib.Dec.{eqb}
use Rattle.circuit.specs.Lines.{strip, space, Name, names, named}
use Rattle.circuit.proofs.Positions.{stripped}
use Rattle.circuit.proofs.Names.{or_else}

-- the same names in another order
pub data Reordered : List Name → List Name → Type 0 where
  empty : Reordered [] []
  first : {es fs : List Name} (e : Name) → Reordered es fs → Reordered (e ∷ es) (e ∷ fs)
  exchanged : (e f : Name) (es : List Name) → Reordered (e ∷ f ∷ es) (f ∷ e ∷ es)
  further : {es fs gs : List Name} → Reordered es fs → Reordered fs gs → Reordered es gs

-- what stands before the first space
abbrev word : List ℕ → List ℕ
word [] = []
word (c ∷ s) = cond (eqb c space) [] (c ∷ word s)

abbrev spaceless : List ℕ → Bool
spaceless [] = true
spaceless (c ∷ s) = not (eqb c space) && spaceless s

word_of : (w rest : List ℕ) → spaceless w ≡ true → word ((w ++ space ∷ []) ++ rest) ≡ w
word_of [] rest h = refl
word_of (c ∷ w) rest h = go (eqb c space) h (word_of w rest)
  where
    go : (b : Bool) → not b && spaceless w ≡ true → (spaceless w ≡ true → word ((w ++ space ∷ []) ++ rest) ≡ w) → cond b [] (c ∷ word ((w ++ space ∷ []) ++ rest)) ≡ c ∷ w
    go true h ih = cc
    go false h ih = ap (λ (t : List ℕ). c ∷ t) (ih h)

-- the name that stands at the front is the word before the first space
stands_as : (e : Name) (s rest : List ℕ) → spaceless e.spelled ≡ true → strip (e.spelled ++ space ∷ []) s ≡ Some rest → word s ≡ e.spelled
stands_as e s rest h q = ap word (stripped (e.spelled ++ space ∷ []) s rest q) ∙ word_of e.spelled rest h

abbrev Other : Name → List Name → Type 0
Other e [] = Unit {0}
Other e (f ∷ fs) = (e.spelled ≡ f.spelled → ⊥) × Other e fs

-- no name has a space, and no two are alike
abbrev pub Apart : List Name → Type 0
Apart [] = Unit {0}
Apart (e ∷ es) = (spaceless e.spelled ≡ true) × Other e es × Apart es

other_kept : (e : Name) {es fs : List Name} → Reordered es fs → Other e es → Other e fs
other_kept e empty o = tt
other_kept e (first f r) o = (o.0, other_kept e r o.1)
other_kept e (exchanged f g es) o = (o.1.0, (o.0, o.1.1))
other_kept e (further r q) o = other_kept e q (other_kept e r o)

apart_kept : {es fs : List Name} → Reordered es fs → Apart es → Apart fs
apart_kept empty a = tt
apart_kept (first e r) a = (a.0, other_kept e r a.1, apart_kept r a.2)
apart_kept (exchanged e f es) a = (a.2.0, ((λ q. a.1.0 (sym q)), a.2.1), (a.0, a.1.1, a.2.2))
apart_kept (further r q) a = apart_kept q (apart_kept r a)

two_first : (e f : Name) (es : List Name) (s : List ℕ) → spaceless e.spelled ≡ true → spaceless f.spelled ≡ true → (e.spelled ≡ f.spelled → ⊥) → named (e ∷ f ∷ es) s ≡ named (f ∷ e ∷ es) s
two_first e f es s he hf d = go (strip (e.spelled ++ space ∷ []) s) (strip (f.spelled ++ space ∷ []) s) refl refl
  where
    go : (o p : Option (List ℕ)) → strip (e.spelled ++ space ∷ []) s ≡ o → strip (f.spelled ++ space ∷ []) s ≡ p
        → or_else e.form o (or_else f.form p (named es s)) ≡ or_else f.form p (or_else e.form o (named es s))
    go (Some t) (Some u) q r = absurd (d (sym (stands_as e s t he q) ∙ stands_as f s u hf r))
    go (Some t) None q r = refl
    go None (Some u) q r = refl
    go None None q r = refl

pub in_any_order : {es fs : List Name} → Reordered es fs → Apart es → (s : List ℕ) → named es s ≡ named fs s
in_any_order empty a s = refl
in_any_order (first e r) a s = ap (or_else e.form (strip (e.spelled ++ space ∷ []) s)) (in_any_order r a.2 s)
in_any_order (exchanged e f es) a s = two_first e f es s a.0 a.2.0 a.1.0
in_any_order (further r q) a s = in_any_order r a s ∙ in_any_order q (apart_kept r a) s

-- names as numbers, by which they are told apart
abbrev number_of : List ℕ → ℕ
number_of [] = 0
number_of (c ∷ w) = c + 256 * number_of w

abbrev new_number : ℕ → List Name → Bool
new_number k [] = true
new_number k (f ∷ fs) = not (eqb k (number_of f.spelled)) && new_number k fs

abbrev tidy : List Name → Bool
tidy [] = true
tidy (e ∷ es) = spaceless e.spelled && new_number (number_of e.spelled) es && tidy es

both : (a b : Bool) → a && b ≡ true → (a ≡ true) × (b ≡ true)
both true b h = (refl, h)
both false b h = absurd (let z : ◌≡◌ {A = ℕ} 0 1 = cc in omega arith)

number_others : (e : Name) (es : List Name) → new_number (number_of e.spelled) es ≡ true → Other e es
number_others e [] h = tt
number_others e (f ∷ fs) h =
    let w = both (not (eqb (number_of e.spelled) (number_of f.spelled))) (new_number (number_of e.spelled) fs) h in
    ((λ q. no (eq-eqb _ _ (ap number_of q)) w.0), number_others e fs w.1)
  where
    no : {b : Bool} → b ≡ true → not b ≡ true → ⊥
    no p q = let z : not true ≡ true = rw p at q in let y : ◌≡◌ {A = ℕ} 0 1 = cc in omega arith

tidy_apart : (es : List Name) → tidy es ≡ true → Apart es
tidy_apart [] h = tt
tidy_apart (e ∷ es) h =
    let w = both (spaceless e.spelled && new_number (number_of e.spelled) es) (tidy es) h in
    let v = both (spaceless e.spelled) (new_number (number_of e.spelled) es) w.0 in
    (v.0, number_others e es v.1, tidy_apart es w.1)

-- the names of document 01 and MR, in any order: what a line means stays
pub any_order : {es : List Name} → Reordered names es → (s : List ℕ) → named names s ≡ named es s
any_order r s = in_any_order r (tidy_apart names refl) s
