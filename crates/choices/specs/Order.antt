-- The product of rows in any order, for the law that the order does not matter where they commute. Assumes nothing.
use Rattle.std.specs.Prelude.{false, List, [], ◌∷◌, ◌≡◌, ℕ, ◌<◌, eqb}
use Rattle.pauli.specs.Letters.{◌⊕◌}
use Rattle.pauli.specs.Rows.{Phased, Row, phased, product, anticommute}
use Rattle.choices.specs.Choices.{Choice, identity}

-- every two of the first k rows commute
abbrev pub Commuting : ℕ → (ℕ → Row) → ℕ → Type 0
Commuting n rows k = (i j : ℕ) → i < k → j < k → anticommute n (rows i).letters (rows j).letters ≡ false

-- the product of the rows of these numbers, in the order in which the numbers stand
abbrev pub product_in_order : ℕ → (ℕ → Row) → List ℕ → Phased
product_in_order n rows [] = identity
product_in_order n rows (j ∷ js) = product n (phased (rows j)) (product_in_order n rows js)

-- the number stands an odd number of times in the list: where all its numbers differ, it stands there
abbrev pub odd_times : List ℕ → Choice
odd_times [] = λ i. false
odd_times (j ∷ js) = λ i. eqb i j ⊕ odd_times js i

-- all numbers of the list are below k
abbrev pub AllBelow : ℕ → List ℕ → Type 0
AllBelow k [] = Unit {0}
AllBelow k (j ∷ js) = (j < k) × AllBelow k js
