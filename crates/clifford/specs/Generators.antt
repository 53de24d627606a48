-- What the rows of a tableau are beyond being properly paired, and what fixed means: document 02, request m. Said of 2n rows in their order, of which the last n are
-- the stabilizers, as a record lists them; "product" is that of a choice of rows. Assumes nothing.
use Rattle.std.specs.Prelude.{Bool, true, false, ◌⊎◌, ◌↔◌, ◌≡◌, ℕ, ◌+◌, ◌<◌}
use Rattle.std.specs.Prelude.{None}
use Rattle.pauli.specs.Letters.{I}
use Rattle.pauli.specs.Rows.{Row}
use Rattle.choices.specs.Choices.{Choice, chosen_product, OnlyI, ProductOf}
use Rattle.clifford.specs.Tableau.{Rows}
use Rattle.clifford.specs.Measurement.{has_x, random_row, settled, fixed_value}

-- the tableau of 2n rows: the last n are the stabilizers
abbrev pub tableau_of : ℕ → (ℕ → Row) → Rows
tableau_of n rows = record { destabilizer = rows; stabilizer = λ i. rows (n + i) }

-- r is a product of stabilizer rows
abbrev pub OfStabilizers : ℕ → (ℕ → Row) → Row → Type 0
OfStabilizers n rows r = ProductOf n (tableau_of n rows).stabilizer n r

abbrev pub minus_identity : Row
minus_identity = record { minus = true; letters = λ j. I }

-- Z on a is fixed: no stabilizer row has X or Y there
abbrev pub ZFixed : ℕ → (ℕ → Row) → ℕ → Type 0
ZFixed n rows a = (i : ℕ) → i < n → has_x a ((tableau_of n rows).stabilizer i) ≡ false

-- the measurement rule finds a fixed, at this value
pub record FixedAt (n a : ℕ) (t : Rows) (value : Bool) : Type 0 where
  pub fixed : random_row n a t ≡ None
  pub is : fixed_value n a t ≡ value

-- `settled a false` is plus Z on a alone, `settled a true` is minus Z
pub record FixedMeans (n : ℕ) (rows : ℕ → Row) (a : ℕ) : Type 0 where
  -- fixed exactly when plus Z or minus Z there is a product of stabilizer rows
  pub exactly : ZFixed n rows a ↔ (OfStabilizers n rows (settled a false) ⊎ OfStabilizers n rows (settled a true))
  -- and then exactly one of the two
  pub not_both : OfStabilizers n rows (settled a false) → OfStabilizers n rows (settled a true) → ⊥
  -- and the outcome that the measurement rule gives is its sign
  pub outcome : (m : Bool) → OfStabilizers n rows (settled a m) ↔ FixedAt n a (tableau_of n rows) m

pub record Generators (n : ℕ) (rows : ℕ → Row) : Type 0 where
  -- no product over a choice of the 2n rows, row i being in it, has only I letters
  pub independent : (c : Choice) (i : ℕ) → i < n + n → c i ≡ true → OnlyI n (chosen_product n rows c (n + n)).letters → ⊥
  -- minus the identity is not a product of stabilizer rows
  pub no_minus : OfStabilizers n rows minus_identity → ⊥
  pub fixed : (a : ℕ) → a < n → FixedMeans n rows a
