-- What the functions that read at a position of a text promise. Each says which definition of Lines.antt it decides there. Assumes nothing.
use Rattle.std.specs.Prelude.{Bool, true, false, cond, List, [], ◌∷◌, ◌≡◌, ℕ, ◌+◌, ◌-◌, ◌≤◌, ◌<◌, length, drop}
use Rattle.std.specs.Prelude.{Option, None, Some}
use Rattle.clifford.specs.declared.Gate.TheVariants.{One as one, Two as two}
use Rattle.clifford.specs.declared.Op.{Op}
use Rattle.clifford.specs.declared.Op.TheVariants.{Gate as apply, Measure as measure}
use Rattle.circuit.specs.declared.Word.{Word}
use Rattle.circuit.specs.declared.Word.TheVariants as word
use Rattle.circuit.specs.Lines.{Found, found, malformed, then_read, strip, is_digit, Form, with_one, with_two, qubit, names, named}

-- f finds this value at one position of s, and ends at another
pub record Stands {A : Type 0} (f : List ℕ → Found A) (s : List ℕ) (at : ℕ) (value : A) (next : ℕ) : Type 0 where
  pub reads : f (drop at s) ≡ found value (drop next s)
  pub after : at < next
  pub within : next ≤ length s

-- what f finds at a position of s, with the position behind it; or nothing, where f finds nothing
abbrev pub ReadsAt : {A : Type 0} → (List ℕ → Found A) → List ℕ → ℕ → Option (A × ℕ) → Type 0
ReadsAt f s at (Some (value, next)) = Stands f s at value next
ReadsAt f s at None = f (drop at s) ≡ malformed

-- the qubits behind a name, each behind a space
abbrev pub qubits : Form → List ℕ → Found Op
qubits (with_one f) s = then_read (qubit s) (λ a rest. found (f a) rest)
qubits (with_two f) s = then_read (qubit s) (λ a rest. then_read (qubit rest) (λ b more. found (f a b) more))

-- the byte stands there, or it does not
abbrev pub Has : List ℕ → ℕ → ℕ → Bool → Type 0
Has s at b true = (at < length s) × (strip (b ∷ []) (drop at s) ≡ Some (drop (at + 1) s))
Has s at b false = strip (b ∷ []) (drop at s) ≡ None

-- the digit at the front
abbrev pub digit_value : List ℕ → Option ℕ
digit_value [] = None
digit_value (c ∷ s) = cond (is_digit c) (Some (c - 48)) None

-- a name that ends here, whose operation has this form
pub record Spelled (s : List ℕ) (at : ℕ) (form : Form) (behind : ℕ) : Type 0 where
  pub names_it : named names (drop at s) ≡ qubits form (drop behind s)
  pub after : at < behind
  pub within : behind ≤ length s

-- the form of the operations that a name has
abbrev pub form_of : Word → Form
form_of (word.One g) = with_one (λ a. apply (one g a))
form_of (word.Two g) = with_two (λ a b. apply (two g a b))
form_of (word.Measure f) = with_one (measure f)

abbrev pub NameAt : List ℕ → ℕ → Option (Word × ℕ) → Type 0
NameAt s at (Some (w, behind)) = Spelled s at (form_of w) behind
NameAt s at None = named names (drop at s) ≡ malformed
