-- The walk over the lines of a text: what holds at each line, and how it ends. Assumes nothing.
use mathlib.Core.Path.{◌≡◌, refl, sym, ◌∙◌, ap}
use mathlib.Core.List.{List, [], ◌∷◌, ◌++◌}
use Prim.Native.Nat.{ℕ, suc, ◌+◌, ◌-◌, ◌≤◌, ◌<◌}
use native.Mathlib.Numerals.{add-one}
use native.Mathlib.Omega.{arith}
use lib.ListN.{length, drop}
use lib.Seq.{append_snoc}
use Rattle.limits.specs.Limits.{most_operations}
use Rattle.answers.specs.Verdict.{Verdict, accepted, refused, then}
use Rattle.answers.proofs.Accepting.{then_accepted}
use Rattle.clifford.specs.declared.Op.{Op}
use Rattle.clifford.specs.Run.{State, run, begin}
use Rattle.clifford.specs.Tableau.{start}
use Rattle.packing.specs.View.{rows_of, Holds}
use Rattle.circuit.specs.Text.{operations}
use Rattle.circuit.proofs.Positions.{front, past}
use Rattle.checking.proofs.Counting.{then_then}
use Rattle.circuit.proofs.Walk.{allowed_line, operations_end, next_line, next_at, measures_one}
use Rattle.tally.specs.declared.Tally.{Tally}
use Rattle.tally.specs.Tally.{randoms}
use Rattle.tally.specs.Parts.Stepping.{none_yet}
use Rattle.walking.specs.declared.Stop.{Stop}
use Rattle.walking.specs.declared.Stop.TheVariants.{NoCoin, Refused}
use Rattle.walking.specs.Parts.Walk.{View, Goes, Stops, NotDone, HasRoom, lines_of, or_none, Ended, Stuck}
use Rattle.tally.proofs.Tallies.{tally_tied, randoms_within}
use Rattle.walking.proofs.Counting.{step_count}
use Rattle.walking.proofs.Views.{view_begin}

-- the operations done so far, the state they led to, and that what the text is worth depends on the lines from here on
pub record Walking (text : List ℕ) (body n : ℕ) (coins words marks : List ℕ) (t : Tally) (at line : ℕ) : Type 0 where
  pub state : State
  pub done : List Op
  pub room : ℕ
  pub left : operations n most_operations 2 (drop body text) ≡ then (operations n room line (drop at text)) (λ ops. accepted (done ++ ops))
  pub so_far : (ops : List Op) → run n 2 (done ++ ops) (begin n coins) ≡ run n line ops state
  pub view : View n coins state words marks t
  pub count : t.measured + 2 ≤ line
  pub lines : line + room ≡ most_operations + 2

pub then_none : {A : Type 0} (v : Verdict A) → v ≡ then v (λ a. accepted a)
then_none (accepted a) = refl
then_none (refused m p) = refl

module _ (text : List ℕ) (body n : ℕ) (coins : List ℕ) where
  pub walk_begin : (words marks : List ℕ) → Holds n words → length marks ≡ most_operations → rows_of n words ≡ start n → Walking text body n coins words marks none_yet body 2
  walk_begin words marks hd room from_start = record {
    state = begin n coins;
    done = [];
    room = most_operations;
    left = then_none (operations n most_operations 2 (drop body text));
    so_far = λ ops. refl;
    view = view_begin n coins words marks hd room (sym from_start);
    count = omega arith;
    lines = omega arith;
  }

  module _ (words marks : List ℕ) (t : Tally) (at line : ℕ) (w : Walking text body n coins words marks t at line) where
    -- the counters have room
    pub walk_room : line < most_operations + 2 → HasRoom coins t
    walk_room l =
        let m = tally_tied n 2 (w.done ++ []) coins w.state (w.so_far []) in
        let c : t.measured < most_operations = omega (arith, w.count, w.lines) in
        let r : t.random ≡ randoms w.state.outcomes = ap (λ (u : Tally). u.random) w.view.tally_is in
        let p : t.taken ≡ randoms w.state.outcomes = ap (λ (u : Tally). u.taken) w.view.tally_is ∙ sym m.random_taken in
        record {
          measured = c;
          random = omega (arith, c, r, w.view.count, randoms_within w.state.outcomes);
          taken = omega (arith, c, p, w.view.count, randoms_within w.state.outcomes);
          enough = w.view.enough;
        }

    -- one line further
    pub walk_on : at < length text → line < most_operations + 2 → (next : ℕ) (words' marks' : List ℕ) (t' : Tally) → Goes text at n coins words marks t next words' marks' t' → Walking text body n coins words' marks' t' next (line + 1)
    walk_on l f next words' marks' t' g =
        let e = g.goes line w.state w.view in
        let op = g.op in
        let room = w.room - 1 in
        let k : w.room ≡ suc room = omega (arith, w.lines) in
        let later = operations n room (suc line) (drop next text) in
        rw (add-one line) (record {
          state = e.state;
          done = w.done ++ (op ∷ []);
          room = room;
          left =
              w.left
              ∙ ap (λ (v : Verdict (List Op)). then v (λ ops. accepted (w.done ++ ops)))
              (ap (λ (i : ℕ). operations n i line (drop at text)) k ∙ allowed_line n room line (drop at text) op (drop next text) (rw (front text at l)) g.stands.reads g.below g.parted)
              ∙ then_then later (λ ops. accepted (op ∷ ops)) (λ ops. accepted (w.done ++ ops))
              ∙ ap (then later) (λ i ops. accepted (sym (append_snoc w.done op ops) i));
          so_far = λ ops.
              ap (λ (o : List Op). run n 2 o (begin n coins)) (append_snoc w.done op ops) ∙ w.so_far (op ∷ ops)
              ∙ ap (λ (v : Verdict State). then v (run n (suc line) ops)) e.is;
          view = e.view;
          count = omega (arith, w.count, w.view.count, e.view.count, step_count n line op w.state e.state e.is, measures_one op);
          lines = omega (arith, w.lines, k);
        })

    -- what is left of an accepted text
    pub record Rest (ops : List Op) : Type 0 where
      pub more : List Op
      pub left_is : operations n w.room line (drop at text) ≡ accepted more
      pub ops_are : w.done ++ more ≡ ops

    rest : (ops : List Op) → operations n most_operations 2 (drop body text) ≡ accepted ops → Rest ops
    rest ops a =
        let q = then_accepted (operations n w.room line (drop at text)) (λ more. accepted (w.done ++ more)) ops (sym w.left ∙ a) in
        record { more = q.value; left_is = q.first; ops_are = (let z = q.later in cc) }

    walk_dry : at < length text → Stops text at n coins words marks t → Stuck text body n coins line
    walk_dry l g a =
        let r = rest (lines_of n body text) a in
        let q = next_at n w.room line text at r.more r.left_is g.op g.next l g.stands in
        ap (λ (o : List Op). run n 2 o (begin n coins)) (sym r.ops_are) ∙ w.so_far r.more ∙ ap (λ (o : List Op). run n line o w.state) q.ops_is
        ∙ ap (λ (v : Verdict State). then v (run n (suc line) q.more)) (g.stops line w.state w.view)

    walk_refused : at < length text → (at < length text → (room line : ℕ) (ops : List Op) → operations n room line (drop at text) ≡ accepted ops → ⊥) → Stuck text body n coins line
    walk_refused l g a =
        let r = rest (lines_of n body text) a in
        absurd (g l w.room line r.more r.left_is)

    pub walk_stopped : at < length text → (why : Stop) → NotDone text at n coins words marks t why → Stuck text body n coins line
    walk_stopped l NoCoin g = walk_dry l g
    walk_stopped l Refused g = walk_refused l g

    pub walk_full : at < length text → most_operations + 2 ≤ line → Stuck text body n coins line
    walk_full l f a =
        let r = rest (lines_of n body text) a in
        let q = next_line n w.room line (drop at text) r.more r.left_is (rw (front text at l)) in
        absurd (omega (arith, q.room_is, w.lines))

    pub walk_end : length text ≤ at → Ended text body n coins words marks t
    walk_end l =
        let z : operations n w.room line (drop at text) ≡ accepted [] = operations_end n w.room line (drop at text) (rw (past text at l)) in
        let a : operations n most_operations 2 (drop body text) ≡ accepted (w.done ++ []) = w.left ∙ ap (λ (v : Verdict (List Op)). then v (λ ops. accepted (w.done ++ ops))) z in
        let o : lines_of n body text ≡ w.done ++ [] = ap or_none a in
        record {
          state = w.state;
          lines = a ∙ ap accepted (sym o);
          is = ap (λ (ops : List Op). run n 2 ops (begin n coins)) o ∙ w.so_far [];
          view = w.view;
        }
