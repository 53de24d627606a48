-- What the steps of a gate promise each other, as bits of every row s. The gates' own promises cite none of this. Assumes nothing.
use Rattle.std.specs.Prelude.{Bool, ◌&&◌, List, ◌≡◌, ℕ, ◌+◌, ◌%◌, ◌≤◌, ◌<◌, get_or}
use Rattle.pauli.specs.Letters.{◌⊕◌}
use Rattle.words.specs.Bit.{bit}
use Rattle.packing.specs.View.{row_count, Words, bit_at}

-- whether a gate on two qubits turns the sign of row s, and whether a gate on one qubit does; the arguments say where the words of the qubits stand
abbrev pub two_turns : List ℕ → ℕ → ℕ → ℕ → ℕ → ℕ → ℕ → Bool
two_turns w xa za p q y s = (bit_at w xa s && bit_at w p s) && ((bit_at w za s ⊕ bit_at w q s) ⊕ bit (s % 64) y)

abbrev pub one_turns : List ℕ → ℕ → ℕ → ℕ → ℕ → ℕ → Bool
one_turns w pa pb zi y s = (bit_at w pa s && bit_at w pb s) ⊕ (bit_at w zi s && bit (s % 64) y)

-- of the words old come new: the four words from o on are those from fx on, the four behind them those from fz on, with the words
-- from o on added where `added` is set; all others are as they were
pub record Shuffled (o fx fz added : ℕ) (old new : List ℕ) : Type 0 where
  pub words : Words new
  pub xs : (s : ℕ) → s < row_count → bit_at new o s ≡ bit_at old fx s
  pub zs : (s : ℕ) → s < row_count → bit_at new (o + 4) s ≡ bit_at old fz s ⊕ (bit_at old o s && bit (s % 64) added)
  pub before : (k : ℕ) → k < o → get_or new k 0 ≡ get_or old k 0
  pub behind : (k : ℕ) → o + 8 ≤ k → get_or new k 0 ≡ get_or old k 0
