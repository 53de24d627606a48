-- Texts put one behind another are one text. Assumes nothing.
use mathlib.Core.List.{List, [], ◌∷◌, ◌++◌}
use mathlib.Core.Path.{◌≡◌, refl, sym, ◌∙◌}
use Prim.Native.Nat.{ℕ, suc, ◌+◌, ◌≤◌, ◌<◌}
use native.Mathlib.Nat.{add-zero}
use native.Mathlib.Omega.{arith}
use lib.ListN.{length, get_or, take, drop, set, length-append}
use lib.Seq.{sets, sets-eq}
use Rattle.std.proofs.lemmas.List.{take_more, take_all}
use Rattle.lines.specs.declared.Lines.{Lines}
use Rattle.lines.specs.Parts.Putting.{Puts}

sets_more : (a b l : List ℕ) (i : ℕ) → sets (sets l i a) (i + length a) b ≡ sets l i (a ++ b)
sets_more [] b l i = rw add-zero
sets_more (x ∷ a) b l i =
    let e : i + suc (length a) ≡ suc i + length a = omega arith in
    rw e (sets_more a b (set l i x) (suc i))

pub puts_none : (l : Lines) → Puts [] l l
puts_none l = record { same_buffer = refl; stored = refl; next_is = omega arith }

pub puts_then : {a b : List ℕ} {before between after : Lines} → Puts a before between → Puts b between after → Puts (a ++ b) before after
puts_then {a} {b} {before} {between} {after} p q = record {
  same_buffer = q.same_buffer ∙ p.same_buffer;
  stored = q.stored ∙ rw (p.stored, p.next_is) (sets_more a b before.out.now before.at);
  next_is = omega (arith, p.next_is, q.next_is, length-append a b);
}

pub puts_as : {text same : List ℕ} {before after : Lines} → text ≡ same → Puts same before after → Puts text before after
puts_as e p = rw e p

-- one byte of a text more
pub puts_more : (text : List ℕ) (k : ℕ) (before between after : Lines) → k < length text → Puts (take k text) before between → Puts (get_or text k 0 ∷ []) between after → Puts (take (k + 1) text) before after
puts_more text k before between after h p q = puts_as (take_more text k 0 h) (puts_then p q)

pub puts_all : (text : List ℕ) (k : ℕ) (before after : Lines) → length text ≤ k → Puts (take k text) before after → Puts text before after
puts_all text k before after h p = puts_as (sym (take_all k text h)) p

-- the promise leaves no choice of bytes or position
pub one_putting : {text : List ℕ} {before after last : Lines} → Puts text before after → Puts text before last → (after.out.now ≡ last.out.now) × (after.at ≡ last.at)
one_putting p q = (p.stored ∙ sym q.stored, p.next_is ∙ sym q.next_is)

-- where there is room the text stands between what stood before it and behind it
pub puts_between : {text : List ℕ} {before after : Lines} → Puts text before after → before.at + length text ≤ length before.out.now → after.out.now ≡ take before.at before.out.now ++ text ++ drop after.at before.out.now
puts_between {text} {before} p h = p.stored ∙ sets-eq text before.out.now before.at h ∙ rw p.next_is
