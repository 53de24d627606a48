-- The seven gates, by what each does to a row: document 01's table of operations, with all bits on the right the old ones. Assumes nothing.
use Rattle.std.specs.Prelude.{Bool, not, ◌&&◌, cond, ◌≡◌, ℕ, ◌<◌, eqb}
use Rattle.pauli.specs.Letters.{Letter, ◌⊕◌, x, z, letter, ◌⊞◌, sign}
use Rattle.pauli.specs.Rows.{Letters, Row, Phased}
use Rattle.clifford.specs.declared.One.{One}
use Rattle.clifford.specs.declared.One.TheVariants.{H, S, PauliX, PauliY, PauliZ}
use Rattle.clifford.specs.declared.Two.{Two}
use Rattle.clifford.specs.declared.Two.TheVariants.{Cx, Cz}
use Rattle.clifford.specs.declared.Gate.{Gate}
use Rattle.clifford.specs.declared.Gate.TheVariants.{One as one, Two as two}

-- the sign turns over when
abbrev pub turns₁ : One → Letter → Bool
turns₁ H l = x l && z l
turns₁ S l = x l && z l
turns₁ PauliX l = z l
turns₁ PauliZ l = x l
turns₁ PauliY l = x l ⊕ z l

-- the new bits
abbrev pub new₁ : One → Letter → Letter
new₁ H l = letter (z l) (x l)
new₁ S l = letter (x l) (z l ⊕ x l)
new₁ PauliX l = l
new₁ PauliZ l = l
new₁ PauliY l = l

-- the same for two qubits, whose letters are a and b: the sign, and the new letter on each
abbrev pub turns₂ : Two → Letter → Letter → Bool
turns₂ Cx a b = x a && z b && not (x b ⊕ z a)
turns₂ Cz a b = x a && x b && (z a ⊕ z b)

abbrev pub new_a : Two → Letter → Letter → Letter
new_a Cx a b = letter (x a) (z a ⊕ z b)
new_a Cz a b = letter (x a) (z a ⊕ x b)

abbrev pub new_b : Two → Letter → Letter → Letter
new_b Cx a b = letter (x b ⊕ x a) (z b)
new_b Cz a b = letter (x b) (z b ⊕ x a)

-- a gate on a row: its sign, and the letters on its qubits
abbrev pub turns : Gate → Letters → Bool
turns (one g a) r = turns₁ g (r a)
turns (two g a b) r = turns₂ g (r a) (r b)

abbrev pub new : Gate → Letters → Letters
new (one g a) r = λ j. cond (eqb j a) (new₁ g (r a)) (r j)
new (two g a b) r = λ j. cond (eqb j a) (new_a g (r a) (r b)) (cond (eqb j b) (new_b g (r a) (r b)) (r j))

abbrev pub gate : Gate → Row → Row
gate g r = record { minus = r.minus ⊕ turns g r.letters; letters = new g r.letters }

-- the same of letters with a power of i before them: a sign that turns over adds two
abbrev pub gate_phased : Gate → Phased → Phased
gate_phased g r = record { phase = r.phase ⊞ sign (turns g r.letters); letters = new g r.letters }

-- the qubits of a gate are of the n, and are not the same
abbrev pub Fits : ℕ → Gate → Type 0
Fits n (one g a) = a < n
Fits n (two g a b) = (a < n) × (b < n) × (a ≡ b → ⊥)
