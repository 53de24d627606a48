-- Products over choices of rows, by the table of letters' products: document 01, "Rows and their products", and request m of document 02. A choice says of each
-- row whether it is in. Nothing here knows how rows are held or what the library runs. Assumes nothing.
use Rattle.std.specs.Prelude.{Bool, cond, ◌≡◌, ℕ, zero, suc, ◌<◌}
use Rattle.pauli.specs.Letters.{I, i0, sign}
use Rattle.pauli.specs.Rows.{Letters, Phased, Row, phased, product}

-- a row is in where its number gives true
abbrev pub Choice : Type 0
Choice = ℕ → Bool

-- the identity: I on every qubit, and no power of i
abbrev pub identity : Phased
identity = record { phase = i0; letters = λ j. I }

-- the product of the chosen among the first k rows on n qubits, in their order, letters and power of i; where none is in, the identity
abbrev pub chosen_product : ℕ → (ℕ → Row) → Choice → ℕ → Phased
chosen_product n rows c zero = identity
chosen_product n rows c (suc k) = cond (c k) (product n (chosen_product n rows c k) (phased (rows k))) (chosen_product n rows c k)

-- only I on the n qubits
abbrev pub OnlyI : ℕ → Letters → Type 0
OnlyI n w = (b : ℕ) → b < n → w b ≡ I

-- r is a product of some of the first k rows: a choice of them has a product with r's letters on the n qubits and the power of i of r's sign
pub record ProductOf (n : ℕ) (rows : ℕ → Row) (k : ℕ) (r : Row) : Type 0 where
  pub choice : Choice
  pub letters : (b : ℕ) → b < n → (chosen_product n rows choice k).letters b ≡ r.letters b
  pub power : (chosen_product n rows choice k).phase ≡ sign r.minus
