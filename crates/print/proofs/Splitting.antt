-- The first line of an input and what stands behind it; and a text that was put from the front on. Assumes nothing.
use mathlib.Core.Bool.{Bool, true, false, cond, not}
use mathlib.Core.List.{List, [], ◌∷◌, ◌++◌}
use mathlib.Core.Path.{◌≡◌, refl, sym, ◌∙◌, ap, ap₂}
use Prim.Native.Nat.{ℕ, suc, ◌+◌, ◌-◌, ◌≤◌, ◌<◌}
use native.Mathlib.Numerals.{one-add}
use native.Mathlib.Omega.{arith}
use borrow.Author.Tests.{lt-ltb, le-ltb}
use lib.Dec.{eqb}
use lib.ListN.{length, take, drop, length-drop}
use lib.Seq.{sets-eq, take_all}
use Rattle.std.specs.Prelude.{None, Some, Result, Ok, Err, nat_lt, position}
use Rattle.std.specs.List.{position_or_len}
use Rattle.std.proofs.lemmas.List.{drop_all}
use Rattle.answers.specs.declared.Refusal.{Refusal}
use Rattle.answers.specs.declared.Refusal.TheVariants.{NoRoom}
use Rattle.answers.specs.Verdict.{accepted}
use Rattle.answers.specs.Refusals.{Writes}
use Rattle.answers.proofs.Answered.{has_no_room, has_written}
use Rattle.answers.proofs.Known.{writes_one}
use Rattle.lines.specs.declared.Lines.{Lines}
use Rattle.lines.specs.Parts.Putting.{Puts}
use Rattle.print.specs.Printed.{first_line, behind_first_line, printed, too_long, shot_printed}

-- a text that was put from the front on, in a buffer that is handed back, and where it is too long for the buffer
pub put_front :
    (text lines back : List ℕ) (before after : Lines)
    → text ≡ lines → before.at ≡ 0 → Puts lines before after → after.at ≤ length before.out.now → back ≡ after.out.now → Writes (accepted text) before.out.now (Ok after.at) back
put_front text lines back before after same z p h b =
    let n : after.at ≡ length text = omega (arith, p.next_is, z, ap length same) in
    has_written (accepted text) before.out.now text after.at back refl (omega arith) n
    (b ∙ p.stored ∙ sets-eq lines before.out.now before.at (omega (arith, p.next_is)) ∙ whole)
  where
    whole : take before.at before.out.now ++ lines ++ drop (before.at + length lines) before.out.now ≡ text ++ drop (length text) before.out.now
    whole =
        let e : before.at + length lines ≡ length text = omega (arith, z, ap length same) in
        λ i. take (z i) before.out.now ++ sym same i ++ drop (e i) before.out.now

pub too_short : (text old : List ℕ) → length old < length text → Writes (accepted text) old (Err NoRoom) old
too_short text old h = has_no_room (accepted text) old text refl h

-- the promises of `print` and `shot` leave no choice of answer or bytes
pub one_print : (text old : List ℕ) (r s : Result ℕ Refusal) (new last : List ℕ) → Writes (accepted text) old r new → Writes (accepted text) old s last → (r ≡ s) × (new ≡ last)
one_print text = writes_one (accepted text)

abbrev ends_line : ℕ → Bool
ends_line b = eqb b 10

first_is : (s : List ℕ) → first_line s ≡ take (position_or_len ends_line s) s
first_is [] = refl
first_is (b ∷ s) = go (eqb b 10) (first_is s)
  where
    go : (e : Bool) → first_line s ≡ take (position_or_len ends_line s) s → cond e [] (b ∷ first_line s) ≡ take (cond (not e) (1 + position_or_len ends_line s) 0) (b ∷ s)
    go true h = refl
    go false h = rw one-add (ap (λ (t : List ℕ). b ∷ t) h)

behind_is : (s : List ℕ) → behind_first_line s ≡ drop (position_or_len ends_line s + 1) s
behind_is [] = refl
behind_is (b ∷ s) = go (eqb b 10) (behind_is s)
  where
    go : (e : Bool) → behind_first_line s ≡ drop (position_or_len ends_line s + 1) s → cond e s (behind_first_line s) ≡ drop (cond (not e) (1 + position_or_len ends_line s) 0 + 1) (b ∷ s)
    go true h = refl
    go false h = let e : 1 + position_or_len ends_line s + 1 ≡ suc (position_or_len ends_line s + 1) = omega arith in rw e h

-- the first line ends here, and the rest stands behind
record Split (input : List ℕ) (end : ℕ) : Type 0 where
  within : end < length input
  before : first_line input ≡ take end input
  behind : behind_first_line input ≡ drop (end + 1) input

split_at : (input : List ℕ) (end : ℕ) → Some end ≡ position ends_line input → Split input end
split_at input end e = go (nat_lt (position_or_len ends_line input) (length input)) refl
  where
    go : (b : Bool) → nat_lt (position_or_len ends_line input) (length input) ≡ b → Split input end
    go true t =
        let u : Some end ≡ Some (position_or_len ends_line input) = e ∙ rw t in
        let k : end ≡ position_or_len ends_line input = cc in
        let h : position_or_len ends_line input < length input = grind arith in
        record { within = omega (arith, h, k); before = first_is input ∙ rw k; behind = behind_is input ∙ rw k }
    go false t = let u : Some end ≡ None = e ∙ rw t in cc

record Unsplit (input : List ℕ) : Type 0 where
  before : first_line input ≡ input
  behind : behind_first_line input ≡ []

unsplit : (input : List ℕ) → None ≡ position ends_line input → Unsplit input
unsplit input e = go (nat_lt (position_or_len ends_line input) (length input)) refl
  where
    go : (b : Bool) → nat_lt (position_or_len ends_line input) (length input) ≡ b → Unsplit input
    go true t = let u : None ≡ Some (position_or_len ends_line input) = e ∙ rw t in cc
    go false t =
        let h : length input ≤ position_or_len ends_line input = grind arith in
        record { before = first_is input ∙ take_all (position_or_len ends_line input) input h; behind = behind_is input ∙ drop_all (position_or_len ends_line input + 1) input (omega (arith, h)) }

-- what the program prints
pub prints_too_long : (input : List ℕ) → 60000 < length input → shot_printed input ≡ too_long
unfolding shot_printed
prints_too_long input h = ap (λ b. cond b too_long (printed (behind_first_line input) (first_line input))) (lt-ltb 60000 (length input) h)

prints : (input coins circuit : List ℕ) → length input ≤ 60000 → first_line input ≡ coins → behind_first_line input ≡ circuit → shot_printed input ≡ printed circuit coins
unfolding shot_printed
prints input coins circuit h a b = ap (λ t. cond t too_long (printed (behind_first_line input) (first_line input))) (le-ltb 60000 (length input) h) ∙ ap₂ printed b a

module _ (input : List ℕ) where
  pub prints_split : (end : ℕ) → length input ≤ 60000 → Some end ≡ position ends_line input → shot_printed input ≡ printed (take (length input - (end + 1)) (drop (end + 1) input)) (take end input)
  prints_split end h e =
      let s = split_at input end e in
      prints input (take end input) (take (length input - (end + 1)) (drop (end + 1) input)) h s.before
      (s.behind ∙ sym (take_all (length input - (end + 1)) (drop (end + 1) input) (omega (arith, length-drop (end + 1) input))))

  pub prints_coins : length input ≤ 60000 → None ≡ position ends_line input → shot_printed input ≡ printed [] input
  prints_coins h e = let s = unsplit input e in prints input input [] h s.before s.behind
