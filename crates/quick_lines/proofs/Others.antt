-- A line that is read as circuit reads it, and what 4 and 5 leave of it. Assumes nothing.
use mathlib.Core.Bool.{true, false, true≢false}
use mathlib.Core.List.{List}
use mathlib.Core.Path.{◌≡◌, refl, sym, ◌∙◌}
use Prim.Native.Nat.{ℕ, ◌<◌}
use borrow.Author.Tests.{lt-ltb, ne_eqb}
use lib.ListN.{length, drop}
use Rattle.answers.specs.Verdict.{accepted}
use Rattle.clifford.specs.declared.Gate.TheVariants.{One as one, Two as two}
use Rattle.clifford.specs.declared.Op.{Op}
use Rattle.clifford.specs.declared.Op.TheVariants.{Gate as apply, Measure as measure}
use Rattle.clifford.specs.Run.{Valid}
use Rattle.circuit.specs.Lines.{malformed, op_line}
use Rattle.circuit.specs.Text.{all_below, apart, operations}
use Rattle.circuit.specs.Parts.Reading.{Stands}
use Rattle.quick_lines.specs.Parts.Lines.{Allowed}
use Rattle.circuit.proofs.Walk.{valid_op, next_at, never_malformed}

-- 4 and 5 refuse no valid operation
valid_below : (n : ℕ) (op : Op) → Valid n op → all_below n op ≡ true
valid_below n (apply (one g a)) v = lt-ltb a n v
valid_below n (apply (two g a b)) v = rw (lt-ltb a n v.0, lt-ltb b n v.1)
valid_below n (measure f a) v = lt-ltb a n v

valid_apart : (n : ℕ) (op : Op) → Valid n op → apart op ≡ true
valid_apart n (apply (one g a)) v = refl
valid_apart n (apply (two g a b)) v = rw (ne_eqb a b v.2)
valid_apart n (measure f a) v = refl

-- no text goes on here that is accepted
abbrev pub NoneGoesOn : List ℕ → ℕ → ℕ → Type 0
NoneGoesOn s at n = at < length s → (room line : ℕ) (ops : List Op) → operations n room line (drop at s) ≡ accepted ops → ⊥

module _ (s : List ℕ) (at n : ℕ) where
  pub refused_below : (op : Op) (next : ℕ) → Stands op_line s at op next → all_below n op ≡ false → NoneGoesOn s at n
  refused_below op next r e h room line ops a = true≢false (sym (valid_below n op (next_at n room line s at ops a op next h r).valid) ∙ e)

  pub refused_apart : (op : Op) (next : ℕ) → Stands op_line s at op next → apart op ≡ false → NoneGoesOn s at n
  refused_apart op next r e h room line ops a = true≢false (sym (valid_apart n op (next_at n room line s at ops a op next h r).valid) ∙ e)

  pub op_malformed : op_line (drop at s) ≡ malformed → NoneGoesOn s at n
  op_malformed e h room line ops a = never_malformed n room line s at ops a h e

pub allowed_valid : (s : List ℕ) (at n : ℕ) (op : Op) (length : ℕ) → Allowed s at n op length → Valid n op
allowed_valid s at n op length w = valid_op n op w.below w.parted
