-- What each operation does to the state that the walk holds. Assumes nothing.
use mathlib.Core.Path.{◌≡◌, refl, sym, ◌∙◌, ap, ap₂}
use mathlib.Core.Bool.{Bool, true, false}
use mathlib.Core.List.{List, [], ◌∷◌, ◌++◌, map}
use Rattle.std.specs.Prelude.{Option}
use Prim.Native.Nat.{ℕ, suc, ◌+◌, ◌≤◌, ◌<◌}
use native.Mathlib.Nat.{add-zero}
use native.Mathlib.Numerals.{add-one}
use native.Mathlib.Omega.{arith}
use lib.ListN.{length, take, drop, set, length-set, length-append, length-drop}
use lib.Seq.{take-suc-set, drop-drop}
use Rattle.limits.specs.Limits.{most_qubits, most_operations}
use Rattle.answers.specs.Verdict.{refused}
use Rattle.clifford.specs.declared.Gate.{Gate}
use Rattle.clifford.specs.declared.After.{After}
use Rattle.clifford.specs.declared.Op.TheVariants.{Gate as apply, Measure as measure}
use Rattle.clifford.specs.Gates.{Fits}
use Rattle.clifford.specs.Tableau.{Rows, gated, start}
use Rattle.clifford.specs.declared.Outcome.{Outcome}
use Rattle.clifford.specs.Measurement.{random_row, collapsed, fixed_value, random_answer, fixed_answer}
use Rattle.clifford.specs.Run.{State, begin, coin, afterwards, concluded, settle, step}
use Rattle.packing.specs.View.{rows_of, Holds}
use Rattle.columns.specs.Parts.Gated.{Gated}
use Rattle.records.specs.Record.{mark, mark_of}
use Rattle.tally.specs.declared.Tally.{Tally}
use Rattle.tally.specs.Tally.{one_if}
use Rattle.tally.specs.Parts.Stepping.{none_yet, stepped}
use Rattle.quick_lines.specs.Parts.Lines.{Allowed}
use Rattle.circuit.proofs.Walk.{valid_op}
use Rattle.walking.specs.Parts.Walk.{Fixed, Random, Dry, ShotIs, View, Went, Goes}
use Rattle.tally.proofs.Tallies.{tally_begin, tally_stepped}

pub view_begin : (n : ℕ) (coins words marks : List ℕ) → Holds n words → length marks ≡ most_operations → start n ≡ rows_of n words → View n coins (begin n coins) words marks none_yet
view_begin n coins words marks h lm e =
    record { holds = h; room = lm; rows_are = e; count = refl; marks_are = refl; tally_is = tally_begin n coins; coins_are = refl; enough = omega arith }

map_more : (f : Outcome → ℕ) (l : List Outcome) (o : Outcome) → map f (l ++ (o ∷ [])) ≡ map f l ++ (f o ∷ [])
map_more f [] o = refl
map_more f (p ∷ l) o = ap (◌∷◌ (f p)) (map_more f l o)

module _ (n : ℕ) (coins : List ℕ) (e : State) (words marks : List ℕ) (t : Tally) (v : View n coins e words marks t) where
  pub went_gate : (line : ℕ) (g : Gate) (words' : List ℕ) → n ≤ most_qubits → Fits n g → Gated g words words' → Went n coins (step n line (apply g) e) words' marks t
  went_gate line g words' h f r = record {
    state = record { outcomes = e.outcomes; rows = gated g e.rows; coins = e.coins };
    is = refl;
    view = record {
      holds = r.holds n h f v.holds;
      room = v.room;
      rows_are = ap (gated g) v.rows_are ∙ sym (r.rows n h f);
      count = v.count;
      marks_are = v.marks_are;
      tally_is = v.tally_is;
      coins_are = v.coins_are;
      enough = v.enough;
    };
  }

  -- one outcome more, with rows and coins as they then are
  viewed : (o : Outcome) (t' : Rows) (left words' : List ℕ) (m : ℕ) (u : Tally) → Holds n words' → t' ≡ rows_of n words' → m ≡ mark o → u ≡ stepped o.random t
      → t.measured < most_operations → left ≡ drop u.taken coins → u.taken ≤ length coins → length e.coins ≡ one_if o.random + length left
      → View n coins (record { outcomes = e.outcomes ++ (o ∷ []); rows = t'; coins = left }) words' (set marks t.measured m) u
  viewed o t' left words' m u hd r em eu h el eh ec =
      let c : u.measured ≡ t.measured + 1 = ap (λ (w : Tally). w.measured) eu in
      record {
        holds = hd;
        room = length-set marks t.measured m ∙ v.room;
        rows_are = r;
        count = omega (arith, c, v.count, length-append e.outcomes (o ∷ []));
        marks_are =
            map_more mark e.outcomes o ∙ ap₂ (λ (l : List ℕ) (k : ℕ). l ++ (k ∷ [])) v.marks_are (sym em)
            ∙ sym (take-suc-set marks t.measured m (omega (arith, v.room))) ∙ ap (λ (k : ℕ). take k (set marks t.measured m)) (sym (add-one t.measured) ∙ sym c);
        tally_is = eu ∙ ap (stepped o.random) v.tally_is ∙ tally_stepped coins e o t' left ec (omega (arith, ap length v.coins_are, length-drop t.taken coins));
        coins_are = el;
        enough = eh;
      }

  pub went_fixed : (line : ℕ) (g : After) (a : ℕ) (value : Bool) (words' : List ℕ) (m : ℕ) (u : Tally) → Holds n words' → Fixed n g a (rows_of n words) value (rows_of n words')
      → m ≡ mark_of false value → u ≡ stepped false t → t.measured < most_operations → Went n coins (step n line (measure g a) e) words' (set marks t.measured m) u
  went_fixed line g a value words' m u hd f em eu h =
      let k : u.taken ≡ t.taken = ap (λ (w : Tally). w.taken) eu ∙ add-zero t.taken in
      let fv : value ≡ fixed_value n a e.rows = f.is ∙ ap (fixed_value n a) (sym v.rows_are) in
      record {
        state = concluded g a e (fixed_answer n a e.rows) e.coins;
        is = ap (λ (o : Option ℕ). settle n line g a e o e.coins) (ap (random_row n a) v.rows_are ∙ f.kind);
        view = viewed (fixed_answer n a e.rows).outcome _ e.coins words' m u hd (ap₂ (afterwards g a) (sym fv) v.rows_are ∙ sym f.after) (em ∙ ap (mark_of false) fv) eu h
            (v.coins_are ∙ ap (λ (i : ℕ). drop i coins) (sym k)) (omega (arith, k, v.enough)) (omega arith);
      }

  pub went_random : (line : ℕ) (g : After) (a : ℕ) (value : Bool) (words' : List ℕ) (m : ℕ) (u : Tally) → Holds n words' → Random n g a (rows_of n words) (drop t.taken coins) value (rows_of n words')
      → m ≡ mark_of true value → u ≡ stepped true t → t.measured < most_operations → Went n coins (step n line (measure g a) e) words' (set marks t.measured m) u
  went_random line g a value words' m u hd f em eu h =
      let k : u.taken ≡ t.taken + 1 = ap (λ (w : Tally). w.taken) eu in
      let c : e.coins ≡ f.byte ∷ f.left = v.coins_are ∙ f.coins_are in
      let l : drop u.taken coins ≡ f.left = ap (λ (i : ℕ). drop i coins) k ∙ sym (drop-drop 1 t.taken coins) ∙ ap (drop 1) f.coins_are in
      let all : length coins ≡ suc (length f.left) + t.taken = omega (arith, length-drop t.taken coins, ap length f.coins_are, v.enough) in
      record {
        state = concluded g a e (random_answer n a f.row (coin f.byte) e.rows) f.left;
        is = ap₂ (settle n line g a e) (ap (random_row n a) v.rows_are ∙ f.kind) c;
        view = viewed (random_answer n a f.row (coin f.byte) e.rows).outcome _ f.left words' m u hd
            (ap₂ (λ b r. afterwards g a b (collapsed n a f.row b r)) (sym f.is) v.rows_are ∙ sym f.after) (em ∙ ap (mark_of true) f.is) eu h (sym l) (omega (arith, k, all)) (omega (arith, ap length c));
      }

  -- either
  pub went_shot : (line : ℕ) (g : After) (a : ℕ) (random value : Bool) (words' : List ℕ) (m : ℕ) (u : Tally) → Holds n words' → ShotIs n g a (rows_of n words) (drop t.taken coins) random value (rows_of n words')
      → m ≡ mark_of random value → u ≡ stepped random t → t.measured < most_operations → Went n coins (step n line (measure g a) e) words' (set marks t.measured m) u
  went_shot line g a true value words' m u hd f em eu h = went_random line g a value words' m u hd f em eu h
  went_shot line g a false value words' m u hd f em eu h = went_fixed line g a value words' m u hd f em eu h

  pub went_dry : (line : ℕ) (g : After) (a : ℕ) → Dry n a (rows_of n words) (drop t.taken coins) → step n line (measure g a) e ≡ refused 7 line
  went_dry line g a f = ap₂ (settle n line g a e) (ap (random_row n a) v.rows_are ∙ f.kind) (v.coins_are ∙ f.none_left)

-- a line with a gate
module _ (text : List ℕ) (at n : ℕ) (g : Gate) (size : ℕ) (words words' : List ℕ) (h : n ≤ most_qubits) (w : Allowed text at n (apply g) size) (p : Gated g words words') where
  pub gate_step : (coins marks : List ℕ) (t : Tally) → Goes text at n coins words marks t (at + size) words' marks t
  gate_step coins marks t = record {
    op = apply g;
    stands = w.stands;
    below = w.below;
    parted = w.parted;
    goes = λ line state v. went_gate n coins state words marks t v line g words' h (valid_op n (apply g) w.below w.parted) p;
  }

  pub gate_holds : Holds n words → Holds n words'
  gate_holds hd = p.holds n h (valid_op n (apply g) w.below w.parted) hd

-- a line that measures
pub measure_step : (text : List ℕ) (at n : ℕ) (f : After) (a size : ℕ) (words marks : List ℕ) (t : Tally) → Allowed text at n (measure f a) size → (coins words' marks' : List ℕ) (t' : Tally)
    → ((line : ℕ) (e : State) → View n coins e words marks t → Went n coins (step n line (measure f a) e) words' marks' t') → Goes text at n coins words marks t (at + size) words' marks' t'
measure_step text at n f a size words marks t w coins words' marks' t' g = record { op = measure f a; stands = w.stands; below = w.below; parted = w.parted; goes = g }
