-- The tactic `tested`: an equation between bits, letters or powers of i, computed at all values of its variables. Assumes nothing.
use mathlib.Core.Path.{◌≡◌, refl, sym, ◌∙◌, ap}
use mathlib.Core.Bool.{Bool, true, false, not, ◌&&◌}
use mathlib.Core.List.{List, [], ◌∷◌}
use lib.Dec.{T}
use Rattle.pauli.specs.Letters.{Letter, I, X, Y, Z, Power, i0, i1, i2, i3, ◌⊕◌, x, z, letter}

pub data Kind : Type 0 where
  bit ltr pow : Kind

abbrev pub Of : Kind → Type 0
Of bit = Bool
Of ltr = Letter
Of pow = Power

abbrev code : Power → Letter
code i0 = I
code i1 = X
code i2 = Y
code i3 = Z

abbrev decode : Letter → Power
decode I = i0
decode X = i1
decode Y = i2
decode Z = i3

abbrev same : Letter → Letter → Bool
same a b = not (x a ⊕ x b) && not (z a ⊕ z b)

abbrev eq : (k : Kind) → Of k → Of k → Bool
eq bit a b = not (a ⊕ b)
eq ltr a b = same a b
eq pow a b = same (code a) (code b)

abbrev every : (k : Kind) → (Of k → Bool) → Bool
every bit f = f true && f false
every ltr f = f I && f X && f Y && f Z
every pow f = f i0 && f i1 && f i2 && f i3

and_left : (a b : Bool) → T (a && b) → T a
and_left true b t = tt
and_left false b t = t

and_right : (a b : Bool) → T (a && b) → T b
and_right true b t = t
and_right false b t = absurd t

every_at : (k : Kind) (f : Of k → Bool) → T (every k f) → (v : Of k) → T (f v)
every_at bit f t = elim [ true ↦ and_left (f true) _ t | false ↦ and_right (f true) _ t ]
every_at ltr f t = elim [ I ↦ search (and_left, and_right) | X ↦ search (and_left, and_right) | Y ↦ search (and_left, and_right) | Z ↦ search (and_left, and_right) ]
every_at pow f t = elim [ i0 ↦ search (and_left, and_right) | i1 ↦ search (and_left, and_right) | i2 ↦ search (and_left, and_right) | i3 ↦ search (and_left, and_right) ]

bit-sound : (a b : Bool) → T (not (a ⊕ b)) → a ≡ b
bit-sound true true t = refl
bit-sound true false t = absurd t
bit-sound false true t = absurd t
bit-sound false false t = refl

whole : (a : Letter) → letter (x a) (z a) ≡ a
whole = elim [ I ↦ refl | X ↦ refl | Y ↦ refl | Z ↦ refl ]

back : (p : Power) → decode (code p) ≡ p
back = elim [ i0 ↦ refl | i1 ↦ refl | i2 ↦ refl | i3 ↦ refl ]

ltr_sound : (a b : Letter) → T (same a b) → a ≡ b
ltr_sound a b t =
    let ex : x a ≡ x b = bit-sound (x a) (x b) (and_left (not (x a ⊕ x b)) (not (z a ⊕ z b)) t) in
    let ez : z a ≡ z b = bit-sound (z a) (z b) (and_right (not (x a ⊕ x b)) (not (z a ⊕ z b)) t) in
    sym (whole a) ∙ (λ i. letter (ex i) (ez i)) ∙ whole b

sound : (k : Kind) (a b : Of k) → T (eq k a b) → a ≡ b
sound bit a b t = bit-sound a b t
sound ltr a b t = ltr_sound a b t
sound pow a b t = sym (back a) ∙ ap decode (ltr_sound (code a) (code b) t) ∙ back b

-- a function of some variables, and two that agree
abbrev pub Fun : List Kind → Kind → Type 0
Fun [] r = Of r
Fun (k ∷ ks) r = Of k → Fun ks r

abbrev pub Agree : (ks : List Kind) (r : Kind) → Fun ks r → Fun ks r → Type 0
Agree [] r f g = f ≡ g
Agree (k ∷ ks) r f g = (v : Of k) → Agree ks r (f v) (g v)

abbrev pub agree : (ks : List Kind) (r : Kind) → Fun ks r → Fun ks r → Bool
agree [] r f g = eq r f g
agree (k ∷ ks) r f g = every k (λ v. agree ks r (f v) (g v))

-- `tested ks r _ _ tt` proves an equation of the kind r that holds at all values of its variables, of the kinds ks
pub tested : (ks : List Kind) (r : Kind) (f g : Fun ks r) → T (agree ks r f g) → Agree ks r f g
tested [] r f g t = sound r f g t
tested (k ∷ ks) r f g t = λ v. tested ks r (f v) (g v) (every_at k (λ v. agree ks r (f v) (g v)) t v)
