-- An accepted text is walked line by line: what each line holds, and where the text ends. For the callers of `line_at`. Assumes nothing.
use mathlib.Core.Bool.{Bool, true, false, ◌&&◌}
use mathlib.Core.List.{List, [], ◌∷◌}
use mathlib.Core.Logic.{◌⊎◌, inl, inr, ⊎_elim}
use mathlib.Core.Path.{◌≡◌, refl, sym, ◌∙◌, ap}
use Prim.Native.Nat.{ℕ, zero, suc, ◌≤◌, ◌<◌}
use native.Mathlib.Omega.{arith}
use borrow.Author.Tests.{ltb-true, eqb-false, not-true}
use lib.Dec.{eqb, ltb}
use lib.ListN.{length, drop}
use Rattle.answers.specs.Verdict.{Verdict, accepted, refused, then, unless}
use Rattle.answers.proofs.Accepting.{unless_passed, then_accepted}
use Rattle.clifford.specs.declared.Gate.TheVariants.{One as one, Two as two}
use Rattle.clifford.specs.declared.Op.{Op}
use Rattle.clifford.specs.declared.Op.TheVariants.{Gate as apply, Measure as measure}
use Rattle.clifford.specs.Run.{Valid, AllValid}
use Rattle.circuit.specs.Lines.{Found, found, malformed, op_line}
use Rattle.circuit.specs.Text.{all_below, apart, checked, ends, operations, measures}
use Rattle.circuit.specs.Parts.Reading.{Stands}
use Rattle.circuit.proofs.Positions.{front, past}

pub and_left : (a b : Bool) → a && b ≡ true → a ≡ true
and_left true b e = refl
and_left false b e = e

pub and_right : (a b : Bool) → a && b ≡ true → b ≡ true
and_right true b e = e
and_right false b e = cc

-- 4 and 5 leave valid operations
pub valid_op : (n : ℕ) (op : Op) → all_below n op ≡ true → apart op ≡ true → Valid n op
valid_op n (apply (one g a)) b d = ltb-true a n b
valid_op n (apply (two g a c)) b d =
    (ltb-true a n (and_left (ltb a n) (ltb c n) b), ltb-true c n (and_right (ltb a n) (ltb c n) b), eqb-false a c (not-true (eqb a c) d))
valid_op n (measure f a) b d = ltb-true a n b

check_valid : (n line : ℕ) (op found-op : Op) → checked n line op ≡ accepted found-op → Valid n op
check_valid n line op o e =
    let below = unless_passed (all_below n op) 4 line (unless (apart op) 5 line (accepted op)) o e in
    valid_op n op below.0 (unless_passed (apart op) 5 line (accepted op) o below.1).0

pub measures_one : (op : Op) → measures op ≤ 1
measures_one (apply g) = omega arith
measures_one (measure f a) = omega arith

-- what follows a line that was read
unfoldable pub after_line : ℕ → ℕ → ℕ → Found Op → Verdict (List Op)
after_line n room line r =
    elim r [
      | found op rest ↦ then (checked n line op) (λ _. then (operations n room (suc line) rest) (λ ops. accepted (op ∷ ops)))
      | malformed ↦ refused 3 line
    ]

pub operations_suc : (n room line : ℕ) (s : List ℕ) (r : Found Op) → ends s ≡ false → op_line s ≡ r → operations n (suc room) line s ≡ after_line n room line r
unfolding after_line
operations_suc n room line [] r h e = cc
operations_suc n room line (c ∷ t) r h e = ap (after_line n room line) e

pub operations_zero : (n line : ℕ) (s : List ℕ) → ends s ≡ false → operations n 0 line s ≡ refused 6 line
operations_zero n line s h = rw h

pub operations_end : (n room line : ℕ) (s : List ℕ) → ends s ≡ true → operations n room line s ≡ accepted []
operations_end n zero line s h = rw h
operations_end n (suc room) line [] h = refl
operations_end n (suc room) line (c ∷ t) h = cc

-- the next line of an accepted text
pub record NextLine (n room line : ℕ) (s : List ℕ) (ops : List Op) : Type 0 where
  pub left : ℕ
  pub room_is : room ≡ suc left
  pub op : Op
  pub rest : List ℕ
  pub reads : op_line s ≡ found op rest
  pub more : List Op
  pub ops_is : ops ≡ op ∷ more
  pub valid : Valid n op
  pub goes_on : operations n left (suc line) rest ≡ accepted more

read_line : (n room line : ℕ) (s : List ℕ) (ops : List Op) (r : Found Op) → ends s ≡ false → op_line s ≡ r → operations n (suc room) line s ≡ accepted ops → NextLine n (suc room) line s ops
unfolding after_line
read_line n room line s ops (found op rest) h e a =
    let w = then_accepted (checked n line op) (λ _. then (operations n room (suc line) rest) (λ more. accepted (op ∷ more))) ops (sym (operations_suc n room line s (found op rest) h e) ∙ a) in
    let v = then_accepted (operations n room (suc line) rest) (λ more. accepted (op ∷ more)) ops w.later in
    record {
      left = room;
      room_is = refl;
      op = op;
      rest = rest;
      reads = e;
      more = v.value;
      ops_is = (let q : accepted (op ∷ v.value) ≡ accepted ops = v.later in cc);
      valid = check_valid n line op w.value w.first;
      goes_on = v.first;
    }
read_line n room line s ops malformed h e a =
    let q : refused 3 line ≡ accepted ops = sym (operations_suc n room line s malformed h e) ∙ a in
    absurd (let z : ◌≡◌ {A = ℕ} 0 1 = cc in omega arith)

pub next_line : (n room line : ℕ) (s : List ℕ) (ops : List Op) → operations n room line s ≡ accepted ops → ends s ≡ false → NextLine n room line s ops
next_line n zero line s ops a h =
    let q : refused 6 line ≡ accepted ops = sym (operations_zero n line s h) ∙ a in
    absurd (let z : ◌≡◌ {A = ℕ} 0 1 = cc in omega arith)
next_line n (suc room) line s ops a h = read_line n room line s ops (op_line s) h refl a

-- a line that is allowed is the first of the operations
pub allowed_line : (n room line : ℕ) (s : List ℕ) (op : Op) (rest : List ℕ) → ends s ≡ false → op_line s ≡ found op rest → all_below n op ≡ true → apart op ≡ true
    → operations n (suc room) line s ≡ then (operations n room (suc line) rest) (λ ops. accepted (op ∷ ops))
unfolding after_line
allowed_line n room line s op rest h e b d = operations_suc n room line s (found op rest) h e ∙ rw (b, d)

-- where the text ends there are no operations more
pub no_more : (n room line : ℕ) (s : List ℕ) (ops : List Op) → operations n room line s ≡ accepted ops → ends s ≡ true → ops ≡ []
no_more n room line s ops a h = let q : accepted [] ≡ accepted ops = sym (operations_end n room line s h) ∙ a in cc

pub ends_or_not : (s : List ℕ) (b : Bool) → ends s ≡ b → (ends s ≡ true) ⊎ (ends s ≡ false)
ends_or_not s true e = inl e
ends_or_not s false e = inr e

-- as many operations as there is room for, and all of them valid
pub within_room : (n room line : ℕ) (s : List ℕ) (ops : List Op) → operations n room line s ≡ accepted ops → length ops ≤ room
within_room n zero line s ops a =
    ⊎_elim {C = length ops ≤ 0} (λ h. rw (no_more n 0 line s ops a h) (omega arith)) (λ h. absurd (let w = next_line n 0 line s ops a h in omega (arith, w.room_is))) (ends_or_not s (ends s) refl)
within_room n (suc room) line s ops a =
    ⊎_elim {C = length ops ≤ suc room} (λ h. rw (no_more n (suc room) line s ops a h) (omega arith))
    (λ h.
    let w = next_line n (suc room) line s ops a h in
    let r : w.left ≡ room = omega (arith, w.room_is) in
    rw w.ops_is (omega (arith, within_room n room (suc line) w.rest w.more (rw r at w.goes_on))))
    (ends_or_not s (ends s) refl)

pub all_valid : (n room line : ℕ) (s : List ℕ) (ops : List Op) → operations n room line s ≡ accepted ops → AllValid n ops
all_valid n zero line s ops a =
    ⊎_elim {C = AllValid n ops} (λ h. rw (no_more n 0 line s ops a h) tt) (λ h. absurd (let w = next_line n 0 line s ops a h in omega (arith, w.room_is))) (ends_or_not s (ends s) refl)
all_valid n (suc room) line s ops a =
    ⊎_elim {C = AllValid n ops} (λ h. rw (no_more n (suc room) line s ops a h) tt)
    (λ h.
    let w = next_line n (suc room) line s ops a h in
    let r : w.left ≡ room = omega (arith, w.room_is) in
    rw w.ops_is (w.valid, all_valid n room (suc line) w.rest w.more (rw r at w.goes_on)))
    (ends_or_not s (ends s) refl)

-- the same by positions, with what `line_at` answers
pub record NextAt (n room line : ℕ) (s : List ℕ) (op : Op) (next : ℕ) (ops : List Op) : Type 0 where
  pub left : ℕ
  pub room_is : room ≡ suc left
  pub more : List Op
  pub ops_is : ops ≡ op ∷ more
  pub valid : Valid n op
  pub goes_on : operations n left (suc line) (drop next s) ≡ accepted more

module _ (n room line : ℕ) (s : List ℕ) (at : ℕ) (ops : List Op) (a : operations n room line (drop at s) ≡ accepted ops) where
  pub next_at : (op : Op) (next : ℕ) → at < length s → Stands op_line s at op next → NextAt n room line s op next ops
  next_at op next h r =
      let w = next_line n room line (drop at s) ops a (rw (front s at h)) in
      let e : ◌≡◌ {A = Found Op} (found w.op w.rest) (found op (drop next s)) = sym w.reads ∙ r.reads in
      let o : w.op ≡ op = cc in
      let t : w.rest ≡ drop next s = cc in
      record {
        left = w.left;
        room_is = w.room_is;
        more = w.more;
        ops_is = w.ops_is ∙ rw o;
        valid = rw o at w.valid;
        goes_on = rw t at w.goes_on;
      }

  pub never_malformed : at < length s → op_line (drop at s) ≡ malformed → ⊥
  never_malformed h e =
      let w = next_line n room line (drop at s) ops a (rw (front s at h)) in
      let q : ◌≡◌ {A = Found Op} (found w.op w.rest) malformed = sym w.reads ∙ e in
      let z : ◌≡◌ {A = ℕ} 0 1 = cc in
      omega arith

  pub none_left : length s ≤ at → ops ≡ []
  none_left h = no_more n room line (drop at s) ops a (rw (past s at h))
