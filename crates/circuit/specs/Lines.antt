-- An operation line: its name, a space and a number for each qubit, and the end byte. Document 01, "The circuit text". Assumes nothing.
use Rattle.std.specs.Prelude.{Bool, ◌&&◌, cond, List, [], ◌∷◌, ◌++◌, ℕ, zero, suc, ◌+◌, ◌-◌, ◌*◌, eqb, leb}
use Rattle.std.specs.Prelude.{Option, None, Some}
use Rattle.clifford.specs.declared.One.TheVariants.{H, S, PauliX, PauliY, PauliZ}
use Rattle.clifford.specs.declared.Two.TheVariants.{Cx, Cz}
use Rattle.clifford.specs.declared.Gate.TheVariants.{One as one, Two as two}
use Rattle.clifford.specs.declared.After.TheVariants.{Keep, Reset}
use Rattle.clifford.specs.declared.Op.{Op}
use Rattle.clifford.specs.declared.Op.TheVariants.{Gate as apply, Measure as measure}

-- what stands at the front of some bytes: a value and the bytes behind it, or nothing well formed
pub data Found (A : Type 0) : Type 0 where
  found : A → List ℕ → Found A
  malformed : Found A

abbrev pub then_read : {A B : Type 0} → Found A → (A → List ℕ → Found B) → Found B
then_read (found a rest) f = f a rest
then_read malformed f = malformed

-- the bytes behind these, where they stand at the front
abbrev pub strip : List ℕ → List ℕ → Option (List ℕ)
strip [] s = Some s
strip (b ∷ bs) [] = None
strip (b ∷ bs) (c ∷ s) = cond (eqb b c) (strip bs s) None

-- the value, if these bytes stand behind it
abbrev pub closed_by : {A : Type 0} → List ℕ → A → List ℕ → Found A
closed_by bs a s = elim (strip bs s) [ Some rest ↦ found a rest | None ↦ malformed ]

abbrev pub space : ℕ
space = 32

abbrev pub end_byte : ℕ
end_byte = 10

abbrev pub is_digit : ℕ → Bool
is_digit c = leb 48 c && leb c 57

-- up to so many digits more
abbrev pub digits : ℕ → ℕ → List ℕ → Found ℕ
digits zero v s = found v s
digits (suc k) v [] = found v []
digits (suc k) v (c ∷ s) = cond (is_digit c) (digits k (10 * v + (c - 48)) s) (found v (c ∷ s))

-- a number has one to three decimal digits and no leading zero, except 0 itself
abbrev pub number : List ℕ → Found ℕ
number [] = malformed
number (c ∷ s) = cond (eqb c 48) (found 0 s) (cond (is_digit c) (digits 2 (c - 48) s) malformed)

-- the operations by their names, with one qubit or with two
pub data Form : Type 0 where
  with_one : (ℕ → Op) → Form
  with_two : (ℕ → ℕ → Op) → Form

pub record Name : Type 0 where
  pub spelled : List ℕ
  pub form : Form

abbrev pub names : List Name
names =
    record { spelled = 72 ∷ []; form = with_one (λ a. apply (one H a)) }
    ∷ record { spelled = 83 ∷ []; form = with_one (λ a. apply (one S a)) }
    ∷ record { spelled = 88 ∷ []; form = with_one (λ a. apply (one PauliX a)) }
    ∷ record { spelled = 89 ∷ []; form = with_one (λ a. apply (one PauliY a)) }
    ∷ record { spelled = 90 ∷ []; form = with_one (λ a. apply (one PauliZ a)) }
    ∷ record { spelled = 67 ∷ 88 ∷ []; form = with_two (λ a b. apply (two Cx a b)) }
    ∷ record { spelled = 67 ∷ 90 ∷ []; form = with_two (λ a b. apply (two Cz a b)) }
    ∷ record { spelled = 77 ∷ []; form = with_one (measure Keep) }
    ∷ record { spelled = 77 ∷ 82 ∷ []; form = with_one (measure Reset) }
    ∷ []

-- a space, and a number
abbrev pub qubit : List ℕ → Found ℕ
qubit s = elim (strip (space ∷ []) s) [ Some rest ↦ number rest | None ↦ malformed ]

-- what stands behind a name and its space: a number, and where the form has two qubits a space and another
abbrev pub operands : Form → List ℕ → Found Op
operands (with_one f) s = then_read (number s) (λ a rest. found (f a) rest)
operands (with_two f) s = then_read (number s) (λ a rest. then_read (qubit rest) (λ b more. found (f a b) more))

-- the name that stands at the front, with a space behind it, decides; there is at most one, in whatever order they are listed (`any_order` of proofs/Order.antt)
abbrev pub named : List Name → List ℕ → Found Op
named [] s = malformed
named (e ∷ es) s = elim (strip (e.spelled ++ space ∷ []) s) [ Some rest ↦ operands e.form rest | None ↦ named es s ]

abbrev pub op_line : List ℕ → Found Op
op_line s = then_read (named names s) (closed_by (end_byte ∷ []))
