-- What the functions that put texts one behind another promise one another. Assumes nothing.
use Rattle.std.specs.Prelude.{List, ◌≡◌, ℕ, ◌+◌, length}
use Rattle.std.proofs.lemmas.List.Edits.{sets}
use Rattle.lines.specs.declared.Lines.{Lines}

-- the text is stored behind what was put before, as far as the buffer reaches, and nothing else changes
pub record Puts (text : List ℕ) (before after : Lines) : Type 0 where
  pub same_buffer : after.out.ghost_name ≡ before.out.ghost_name
  pub stored : after.out.now ≡ sets before.out.now before.at text
  pub next_is : after.at ≡ before.at + length text
