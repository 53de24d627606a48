-- A promise to write, met: by a refusal, by a buffer that is too short, and by the bytes at its front. Assumes nothing.
use mathlib.Core.Path.{◌≡◌, sym, ◌∙◌, ap}
use mathlib.Core.List.{List}
use Prim.Native.Nat.{ℕ, ◌≤◌, ◌<◌}
use lib.ListN.{length}
use borrow.Author.Tests.{le-leb, lt-leb}
use Rattle.answers.specs.declared.Refusal.{Refusal}
use Rattle.answers.specs.declared.Refusal.TheVariants.{NoRoom}
use Rattle.std.specs.Prelude.{Ok, Err}
use Rattle.answers.specs.Verdict.{Verdict, accepted, refused, then, unless, within, over, after, counted}
use Rattle.answers.specs.Refusals.{number_of, place_of, Writes}

module _ (v : Verdict (List ℕ)) (old : List ℕ) where
  pub refuses : (r : Refusal) → v ≡ refused (number_of r) (place_of r) → Writes v old (Err r) old
  refuses r e = record {
    answer = sym (ap (λ w. counted (then w (within (length old)))) e);
    buffer = sym (ap (λ w. after (then w (within (length old))) old) e);
  }

  pub has_no_room : (bytes : List ℕ) → v ≡ accepted bytes → length old < length bytes → Writes v old (Err NoRoom) old
  has_no_room bytes e h =
      let u : then v (within (length old)) ≡ refused 8 0 = ap (λ w. then w (within (length old))) e ∙ ap (λ b. unless b 8 0 (accepted bytes)) (lt-leb (length bytes) (length old) h) in
      record { answer = sym (ap counted u); buffer = sym (ap (λ w. after w old) u) }

  pub has_written : (bytes : List ℕ) (count : ℕ) (new : List ℕ) → v ≡ accepted bytes → length bytes ≤ length old → count ≡ length bytes → new ≡ over bytes old → Writes v old (Ok count) new
  has_written bytes count new e h c n =
      let u : then v (within (length old)) ≡ accepted bytes = ap (λ w. then w (within (length old))) e ∙ ap (λ b. unless b 8 0 (accepted bytes)) (le-leb (length bytes) (length old) h) in
      record { answer = ap accepted c ∙ sym (ap counted u); buffer = n ∙ sym (ap (λ w. after w old) u) }
