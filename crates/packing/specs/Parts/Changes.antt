-- What the small steps of an operation do to the words. Assumes nothing.
use Rattle.std.specs.Prelude.{Bool, List, ◌≡◌, ℕ, zero, suc, ◌+◌, ◌≤◌, ◌<◌, length, get_or}
use Rattle.packing.specs.View.{row_count, word_count, bit_at}

-- four things by their number
abbrev pub four : {A : Type 0} → A → A → A → A → ℕ → A
four a b c d zero = a
four a b c d (suc zero) = b
four a b c d (suc (suc zero)) = c
four a b c d (suc (suc (suc g))) = d

-- of so many words old come new: in the four words from o on row s has the bit f s, all others are as they were
pub record Replaced (count o : ℕ) (f : ℕ → Bool) (old new : List ℕ) : Type 0 where
  pub words : length new ≡ count
  pub bits : (s : ℕ) → s < row_count → bit_at new o s ≡ f s
  pub before : (k : ℕ) → k < o → get_or new k 0 ≡ get_or old k 0
  pub behind : (k : ℕ) → o + 4 ≤ k → get_or new k 0 ≡ get_or old k 0

-- the same of the words of a tableau
abbrev pub Changed : ℕ → (ℕ → Bool) → List ℕ → List ℕ → Type 0
Changed o f old new = Replaced word_count o f old new
