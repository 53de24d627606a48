-- What is left of a random measurement when the rows are multiplied. Assumes nothing.
use Rattle.std.specs.Prelude.{Bool, ◌&&◌, List, ◌≡◌, ℕ, ◌+◌, ◌*◌, ◌<◌}
use Rattle.limits.specs.Limits.{most_qubits}
use Rattle.pauli.specs.Letters.{letter, ◌⊕◌}
use Rattle.packing.specs.View.{row_count, sign_words, Words, bit_at, letter_at}
use Rattle.groups.specs.Parts.Rows.{All}

-- of the words old come new: in the rows that t has, Z on a is turned over, and the sign by the coin; all else is as it was
pub record Settled (a : ℕ) (t : ℕ → Bool) (coin : Bool) (old new : List ℕ) : Type 0 where
  pub words : Words new
  pub signs : All (λ s. bit_at new sign_words s ≡ bit_at old sign_words s ⊕ (t s && coin))
  pub here : All (λ s. letter_at new s a ≡ letter (bit_at old (8 * a) s) (bit_at old (8 * a + 4) s ⊕ t s))
  pub letters : (s j : ℕ) → s < row_count → j < most_qubits → (j ≡ a → ⊥) → letter_at new s j ≡ letter_at old s j
