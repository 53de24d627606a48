-- Matrices over the Gaussian integers, as the sources print them: those of the letters (document 000, section 4.2; 001) and of the gates (000, section 3),
-- H without its 1/sqrt 2. Assumes nothing.
use Rattle.std.specs.Prelude.{List, [], ◌∷◌, ◌++◌, map, ℤ, pos, ◌+ℤ◌, ◌*ℤ◌, neg_ℤ}
use Rattle.pauli.specs.Letters.{Letter, I, X, Y, Z, Power, i0, i1, i2, i3}
use Rattle.clifford.specs.declared.One.{One}
use Rattle.clifford.specs.declared.One.TheVariants.{H, S, PauliX, PauliY, PauliZ}
use Rattle.clifford.specs.declared.Two.{Two}
use Rattle.clifford.specs.declared.Two.TheVariants.{Cx, Cz}

-- a Gaussian integer
pub record Gaussian : Type 0 where
  pub re : ℤ
  pub im : ℤ

abbrev pub o : Gaussian
o = record { re = pos 0; im = pos 0 }

abbrev pub one : Gaussian
one = record { re = pos 1; im = pos 0 }

abbrev pub i : Gaussian
i = record { re = pos 0; im = pos 1 }

abbrev pub neg : Gaussian → Gaussian
neg a = record { re = neg_ℤ a.re; im = neg_ℤ a.im }

abbrev pub plus : Gaussian → Gaussian → Gaussian
plus a b = record { re = a.re +ℤ b.re; im = a.im +ℤ b.im }

abbrev pub entry_times : Gaussian → Gaussian → Gaussian
entry_times a b = record { re = (a.re *ℤ b.re) +ℤ neg_ℤ (a.im *ℤ b.im); im = (a.re *ℤ b.im) +ℤ (a.im *ℤ b.re) }

-- a matrix is a list of its rows
abbrev pub Matrix : Type 0
Matrix = List (List Gaussian)

abbrev pub scale : Gaussian → Matrix → Matrix
scale c m = map (map (entry_times c)) m

-- the sum of two rows
abbrev pub add : List Gaussian → List Gaussian → List Gaussian
add [] s = s
add (a ∷ r) [] = a ∷ r
add (a ∷ r) (b ∷ s) = plus a b ∷ add r s

-- a row times a matrix: its entries times the matrix's rows, summed
abbrev pub row_times : List Gaussian → Matrix → List Gaussian
row_times [] m = []
row_times (a ∷ r) [] = []
row_times (a ∷ r) (s ∷ m) = add (map (entry_times a) s) (row_times r m)

abbrev pub matrix_times : Matrix → Matrix → Matrix
matrix_times m p = map (λ r. row_times r p) m

-- the Kronecker product
abbrev pub kron_row : List Gaussian → List Gaussian → List Gaussian
kron_row [] s = []
kron_row (a ∷ r) s = map (entry_times a) s ++ kron_row r s

abbrev pub kron_rows : List Gaussian → Matrix → Matrix
kron_rows r m = map (kron_row r) m

abbrev pub kron : Matrix → Matrix → Matrix
kron [] p = []
kron (r ∷ m) p = kron_rows r p ++ kron m p

abbrev pub two_by_two : Gaussian → Gaussian → Gaussian → Gaussian → Matrix
two_by_two a b c d = (a ∷ b ∷ []) ∷ (c ∷ d ∷ []) ∷ []

-- a power of i
abbrev pub unit : Power → Gaussian
unit i0 = one
unit i1 = i
unit i2 = neg one
unit i3 = neg i

-- the letters
abbrev pub matrix : Letter → Matrix
matrix I = two_by_two one o o one
matrix X = two_by_two o one one o
matrix Y = two_by_two o (neg i) i o
matrix Z = two_by_two one o o (neg one)

-- the gates on one qubit
abbrev pub gate₁ : One → Matrix
gate₁ H = two_by_two one one one (neg one)
gate₁ S = two_by_two one o o i
gate₁ PauliX = matrix X
gate₁ PauliY = matrix Y
gate₁ PauliZ = matrix Z

-- the gates on two qubits, the first of which is the left factor of the Kronecker product
abbrev pub gate₂ : Two → Matrix
gate₂ Cx =
    (one ∷ o ∷ o ∷ o ∷ [])
    ∷ (o ∷ one ∷ o ∷ o ∷ [])
    ∷ (o ∷ o ∷ o ∷ one ∷ [])
    ∷ (o ∷ o ∷ one ∷ o ∷ [])
    ∷ []
gate₂ Cz =
    (one ∷ o ∷ o ∷ o ∷ [])
    ∷ (o ∷ one ∷ o ∷ o ∷ [])
    ∷ (o ∷ o ∷ one ∷ o ∷ [])
    ∷ (o ∷ o ∷ o ∷ neg one ∷ [])
    ∷ []
