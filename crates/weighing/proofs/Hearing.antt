-- One measurement beside its character, and one line. Assumes nothing.
use mathlib.Core.Path.{◌≡◌, refl, sym, ◌∙◌, ap, ap₂}
use mathlib.Core.Bool.{Bool, true, false, not, ◌&&◌, cond, beq, true≢false}
use mathlib.Core.List.{List, [], ◌∷◌, map}
use Rattle.std.specs.Prelude.{Option, None, Some}
use Prim.Native.Nat.{ℕ, zero, suc, ◌+◌, ◌≤◌, ◌<◌}
use native.Mathlib.Nat.{add-zero}
use native.Mathlib.Numerals.{add-one}
use native.Mathlib.Omega.{arith}
use lib.ListN.{length, get_or, drop}
use Rattle.limits.specs.Limits.{most_qubits}
use Rattle.pauli.specs.Letters.{◌⊕◌}
use Rattle.clifford.specs.declared.After.{After}
use Rattle.clifford.specs.declared.Op.{Op}
use Rattle.clifford.specs.declared.Gate.{Gate}
use Rattle.clifford.specs.declared.Op.TheVariants.{Gate as apply, Measure as measure}
use Rattle.clifford.specs.Tableau.{Rows}
use Rattle.clifford.specs.Measurement.{random_row, collapsed, fixed_value}
use Rattle.clifford.specs.Run.{coin, afterwards}
use Rattle.circuit.proofs.Positions.{front}
use Rattle.circuit.proofs.Walk.{next_at}
use Rattle.packing.specs.View.{rows_of, Holds}
use Rattle.quick_lines.specs.Parts.Lines.{Allowed}
use Rattle.circuit.proofs.Walk.{valid_op}
use Rattle.columns.specs.Parts.Gated.{Gated}
use Rattle.walking.specs.Parts.Walk.{Fixed, Random, ShotIs}
use Rattle.tally.specs.Tally.{one_if}
use Rattle.readouts.specs.Readouts.{Weighed, impossible, weigh}
use Rattle.weighing.specs.declared.Passed.{Passed}
use Rattle.weighing.specs.Parts.Heard.{Hears, Paces, Halts}

-- the values stated from a place on are those of the characters from there on
values_from : (stated : List ℕ) (at : ℕ) → drop at (map coin stated) ≡ map coin (drop at stated)
values_from stated zero = refl
values_from [] (suc at) = refl
values_from (byte ∷ stated) (suc at) = values_from stated at

-- two values as the code compares them
differs : (value outcome : Bool) → value ⊕ outcome ≡ not (beq value outcome)
differs true true = refl
differs true false = refl
differs false true = refl
differs false false = refl

agrees : (value outcome : Bool) → not (beq value outcome) ≡ false → value ≡ outcome
agrees true true e = refl
agrees true false e = e
agrees false true e = sym e
agrees false false e = refl

-- the measurement at a place of the characters
module _ (n : ℕ) (f : After) (a : ℕ) (t : Rows) (stated : List ℕ) (at : ℕ) where
  abbrev Against : Type 0
  Against = (line : ℕ) (ops : List Op) (k : ℕ) → weigh n line (measure f a ∷ ops) t (drop at (map coin stated)) k ≡ impossible line

  pub heard_none : drop at stated ≡ [] → Against
  heard_none e line ops k = rw (values_from stated at, e)

  module _ (h : at < length stated) where
    abbrev value : Bool
    value = coin (get_or stated at 0)

    abbrev later : List Bool
    later = drop (at + 1) (map coin stated)

    -- what it comes to, by the row that makes it random
    abbrev by_row : ℕ → List Op → ℕ → Option ℕ → Weighed
    by_row line ops k o =
        elim o [
          | Some p ↦ weigh n (suc line) ops (afterwards f a value (collapsed n a p value t)) later (suc k)
          | None ↦ cond (value ⊕ fixed_value n a t) (impossible line) (weigh n (suc line) ops (afterwards f a value t) later k)
        ]

    takes_one : drop at (map coin stated) ≡ value ∷ later
    takes_one = values_from stated at ∙ ap (map coin) (front stated at h) ∙ ap (◌∷◌ value) (sym (values_from stated (at + 1)))

    heard_by : (line : ℕ) (ops : List Op) (k : ℕ) (o : Option ℕ) → random_row n a t ≡ o → weigh n line (measure f a ∷ ops) t (drop at (map coin stated)) k ≡ by_row line ops k o
    heard_by line ops k o e = ap (λ (values : List Bool). weigh n line (measure f a ∷ ops) t values k) takes_one ∙ ap (by_row line ops k) e

    compared : (outcome : Bool) (t' : Rows) → Fixed n f a t outcome t' → (line : ℕ) (ops : List Op) (k : ℕ)
        → weigh n line (measure f a ∷ ops) t (drop at (map coin stated)) k ≡ cond (not (beq value outcome)) (impossible line) (weigh n (suc line) ops (afterwards f a value t) later k)
    compared outcome t' s line ops k = rw (sym (differs value outcome), s.is) (heard_by line ops k None s.kind)

    heard_against : (outcome : Bool) (t' : Rows) → Fixed n f a t outcome t' → not (beq value outcome) ≡ true → Against
    heard_against outcome t' s e line ops k = rw e at (compared outcome t' s line ops k)

    heard_fixed : (outcome : Bool) (words' : List ℕ) → Holds n words' → Fixed n f a t outcome (rows_of n words') → not (beq value outcome) ≡ false → Hears n f a t stated at 0 words'
    heard_fixed outcome words' hd s e = record {
      holds = hd;
      same = λ line ops k.
          (rw e at (compared outcome (rows_of n words') s line ops k))
          ∙ ap₂ (λ (u : Rows) (i : ℕ). weigh n (suc line) ops u later i) (ap (λ (b : Bool). afterwards f a b t) (agrees value outcome e) ∙ sym s.after) (sym (add-zero k));
    }

    heard_random : (outcome : Bool) (words' : List ℕ) → Holds n words' → Random n f a t (drop at stated) outcome (rows_of n words') → Hears n f a t stated at 1 words'
    heard_random outcome words' hd s =
        let q : get_or stated at 0 ∷ drop (at + 1) stated ≡ s.byte ∷ s.left = sym (front stated at h) ∙ s.coins_are in
        let b : get_or stated at 0 ≡ s.byte = cc in
        let v : value ≡ outcome = ap coin b ∙ sym s.is in
        record {
          holds = hd;
          same = λ line ops k.
              heard_by line ops k (Some s.row) s.kind
              ∙ ap₂ (λ (u : Rows) (i : ℕ). weigh n (suc line) ops u later i) (ap (λ (b : Bool). afterwards f a b (collapsed n a s.row b t)) v ∙ sym s.after) (sym (add-one k));
        }

    -- the two by its kind, where the value is known by another name
    pub heard_off : (random outcome v : Bool) (t' : Rows) → v ≡ value → ShotIs n f a t (drop at stated) random outcome t' → not random && not (beq v outcome) ≡ true → Against
    heard_off true outcome v t' q s e = absurd (true≢false (sym e))
    heard_off false outcome v t' q s e = heard_against outcome t' s (ap (λ (b : Bool). not (beq b outcome)) (sym q) ∙ e)

    pub heard_on : (random outcome v : Bool) (words' : List ℕ) → v ≡ value → Holds n words' → ShotIs n f a t (drop at stated) random outcome (rows_of n words')
        → not random && not (beq v outcome) ≡ false → Hears n f a t stated at (one_if random) words'
    heard_on true outcome v words' q hd s e = heard_random outcome words' hd s
    heard_on false outcome v words' q hd s e = heard_fixed outcome words' hd s (ap (λ (b : Bool). not (beq b outcome)) (sym q) ∙ e)

-- the line at a position
module _ (text : List ℕ) (at n : ℕ) (stated words : List ℕ) (p : Passed) (size : ℕ) where
  -- it measures a
  module _ (f : After) (a : ℕ) (w : Allowed text at n (measure f a) size) where
    pub paced_measure : (more random : ℕ) (words' : List ℕ) → more ≤ 1 → random ≡ p.random + more → Hears n f a (rows_of n words) stated p.measured more words'
        → Paces text at n stated words p (at + size) words' (record { measured = p.measured + 1; random = random })
    paced_measure more random words' l e h = record {
      op = measure f a;
      stands = w.stands;
      below = w.below;
      parted = w.parted;
      holds = h.holds;
      measured_is = refl;
      random_few = omega (arith, e, l);
      same = λ line ops. rw e (h.same line ops p.random);
    }

    pub paced_against : Against n f a (rows_of n words) stated p.measured → Halts text at n stated words p
    paced_against h l room line ops e = let q = next_at n room line text at ops e (measure f a) (at + size) l w.stands in rw q.ops_is (h line q.more p.random)

  -- it has a gate
  pub paced_gate : (g : Gate) (words' : List ℕ) → n ≤ most_qubits → Holds n words → Allowed text at n (apply g) size → Gated g words words' → Paces text at n stated words p (at + size) words' p
  paced_gate g words' h hd w q =
      let fits = valid_op n (apply g) w.below w.parted in
      record {
        op = apply g;
        stands = w.stands;
        below = w.below;
        parted = w.parted;
        holds = q.holds n h fits hd;
        measured_is = sym (add-zero p.measured);
        random_few = omega arith;
        same = λ line ops. ap (λ (u : Rows). weigh n (suc line) ops u (drop p.measured (map coin stated)) p.random) (sym (q.rows n h fits));
      }
