-- The steps of a gate, each as what it does to the bits of every row. Assumes nothing.
use mathlib.Core.Path.{◌≡◌, ap, ◌∙◌}
use mathlib.Core.Bool.{Bool}
use mathlib.Core.List.{List}
use Prim.Native.Nat.{ℕ, ◌<◌}
use Rattle.pauli.specs.Letters.{◌⊕◌}
use Rattle.packing.specs.View.{row_count, sign_words, bit_at}
use Rattle.packing.specs.Parts.Changes.{Changed}

-- the same bits by another name
pub changed_same : {o : ℕ} {f : ℕ → Bool} {old new : List ℕ} (g : ℕ → Bool) → Changed o f old new → ((s : ℕ) → s < row_count → f s ≡ g s) → Changed o g old new
changed_same g c e = record { words = c.words; bits = λ s l. c.bits s l ∙ e s l; before = c.before; behind = c.behind }

-- signs that turn where t holds
pub turned_by : {f : ℕ → Bool} {old new : List ℕ} (t : ℕ → Bool) → Changed sign_words (λ s. bit_at old sign_words s ⊕ f s) old new → ((s : ℕ) → s < row_count → f s ≡ t s)
    → Changed sign_words (λ s. bit_at old sign_words s ⊕ t s) old new
turned_by {f} {old} t c e = changed_same (λ s. bit_at old sign_words s ⊕ t s) c (λ s l. ap (λ (b : Bool). bit_at old sign_words s ⊕ b) (e s l))
