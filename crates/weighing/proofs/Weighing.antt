-- The walk over the lines of a text with a stated readout: what holds at each line, and how it ends. Assumes nothing.
use mathlib.Core.Path.{◌≡◌, refl, sym, ◌∙◌, ap}
use mathlib.Core.List.{List, [], ◌∷◌, ◌++◌, map, append-nil}
use Prim.Native.Nat.{ℕ, suc, ◌+◌, ◌-◌, ◌≤◌, ◌<◌}
use native.Mathlib.Omega.{arith}
use lib.ListN.{length, drop}
use lib.Seq.{append_snoc}
use Rattle.limits.specs.Limits.{most_operations}
use Rattle.answers.specs.Verdict.{Verdict, accepted, then}
use Rattle.clifford.specs.declared.Op.{Op}
use Rattle.clifford.specs.Tableau.{Rows, start}
use Rattle.clifford.specs.Run.{coin}
use Rattle.circuit.specs.Text.{operations, count_measured}
use Rattle.circuit.proofs.Positions.{front, past}
use Rattle.circuit.proofs.Walk.{allowed_line, operations_end, next_line, measures_one}
use Rattle.checking.proofs.Counting.{then_then}
use Rattle.packing.specs.View.{rows_of, Holds}
use Rattle.walking.specs.Parts.Walk.{lines_of, or_none}
use Rattle.walking.proofs.Counting.{counted_both}
use Rattle.walking.proofs.Walking.{then_none}
use Rattle.readouts.specs.Readouts.{impossible, weigh}
use Rattle.weighing.specs.declared.Passed.{Passed}
use Rattle.weighing.specs.Parts.Heard.{Weighable, Paces, Halts, WeighsAll, WeighsPart}

-- the operations done so far, what they come to, and that what the text is worth depends on the lines from here on
pub record Weighing (text : List ℕ) (body n : ℕ) (stated words : List ℕ) (p : Passed) (at done : ℕ) : Type 0 where
  pub before : List Op
  pub left : operations n most_operations 2 (drop body text) ≡ then (operations n (most_operations - done) (done + 2) (drop at text)) (λ ops. accepted (before ++ ops))
  pub so_far : (ops : List Op) → weigh n 2 (before ++ ops) (start n) (map coin stated) 0 ≡ weigh n (done + 2) ops (rows_of n words) (drop p.measured (map coin stated)) p.random
  pub holds : Holds n words
  pub measured_is : p.measured ≡ count_measured before
  pub enough : done ≤ most_operations
  pub few : p.measured ≤ done
  pub random_few : p.random ≤ p.measured

module _ (text : List ℕ) (body n : ℕ) (stated : List ℕ) where
  pub weigh_begin : (words : List ℕ) → Holds n words → rows_of n words ≡ start n → Weighing text body n stated words (record { measured = 0; random = 0 }) body 0
  weigh_begin words hd from_start = record {
    before = [];
    left = then_none (operations n most_operations 2 (drop body text));
    so_far = λ ops. ap (λ (t : Rows). weigh n 2 ops t (map coin stated) 0) (sym from_start);
    holds = hd;
    measured_is = refl;
    enough = omega arith;
    few = omega arith;
    random_few = omega arith;
  }

  module _ (words : List ℕ) (p : Passed) (at done : ℕ) (w : Weighing text body n stated words p at done) where
    -- the counts have room
    pub weigh_room : done < most_operations → Weighable p
    weigh_room f = record {
      measured = omega (arith, w.few, w.enough);
      random = omega (arith, w.random_few, w.few, w.enough);
    }

    -- one line further
    pub weigh_on : at < length text → done < most_operations → (next : ℕ) (words' : List ℕ) (p' : Passed) → Paces text at n stated words p next words' p'
        → Weighing text body n stated words' p' next (done + 1)
    weigh_on l f next words' p' g =
        let op = g.op in
        let room = most_operations - (done + 1) in
        let k : most_operations - done ≡ suc room = omega (arith, w.enough) in
        let line : done + 1 + 2 ≡ suc (done + 2) = omega arith in
        let later = operations n room (suc (done + 2)) (drop next text) in
        record {
          before = w.before ++ (op ∷ []);
          left =
              rw line
              (w.left
              ∙ ap (λ (v : Verdict (List Op)). then v (λ ops. accepted (w.before ++ ops)))
              (ap (λ (i : ℕ). operations n i (done + 2) (drop at text)) k ∙ allowed_line n room (done + 2) (drop at text) op (drop next text) (rw (front text at l)) g.stands.reads g.below g.parted)
              ∙ then_then later (λ ops. accepted (op ∷ ops)) (λ ops. accepted (w.before ++ ops))
              ∙ ap (then later) (λ i ops. accepted (sym (append_snoc w.before op ops) i)));
          so_far = λ ops.
              rw line (ap (λ (o : List Op). weigh n 2 o (start n) (map coin stated) 0) (append_snoc w.before op ops) ∙ w.so_far (op ∷ ops) ∙ g.same (done + 2) ops);
          holds = g.holds;
          measured_is = omega (arith, g.measured_is, w.measured_is, counted_both w.before (op ∷ []));
          enough = omega (arith, w.enough);
          few = omega (arith, g.measured_is, w.few, measures_one op);
          random_few = omega (arith, g.random_few, g.measured_is, w.random_few);
        }

    -- if the lines from here on are allowed, it is impossible at this one
    stopped : ((ops : List Op) → operations n (most_operations - done) (done + 2) (drop at text) ≡ accepted ops
        → weigh n (done + 2) ops (rows_of n words) (drop p.measured (map coin stated)) p.random ≡ impossible (done + 2)) → WeighsPart text body n stated at done p
    stopped h = record {
      before = w.before;
      left = w.left;
      measured_is = w.measured_is;
      enough = w.enough;
      few = w.few;
      against = λ ops e. w.so_far ops ∙ h ops e;
    }

    pub weigh_halted : at < length text → Halts text at n stated words p → WeighsPart text body n stated at done p
    weigh_halted l h = stopped (h l (most_operations - done) (done + 2))

    pub weigh_full : at < length text → done ≡ most_operations → WeighsPart text body n stated at done p
    weigh_full l f = stopped (λ ops e.
        let q = next_line n (most_operations - done) (done + 2) (drop at text) ops e (rw (front text at l)) in
        absurd (omega (arith, q.room_is)))

    pub weigh_end : length text ≤ at → WeighsAll text body n stated p
    weigh_end l =
        let z : operations n (most_operations - done) (done + 2) (drop at text) ≡ accepted [] = operations_end n (most_operations - done) (done + 2) (drop at text) (rw (past text at l)) in
        let a : operations n most_operations 2 (drop body text) ≡ accepted (w.before ++ []) = w.left ∙ ap (λ (v : Verdict (List Op)). then v (λ ops. accepted (w.before ++ ops))) z in
        let o : lines_of n body text ≡ w.before ++ [] = ap or_none a in
        record {
          lines = a ∙ ap accepted (sym o);
          measured_is = w.measured_is ∙ ap count_measured (sym (o ∙ append-nil w.before));
          is = ap (λ (ops : List Op). weigh n 2 ops (start n) (map coin stated) 0) o ∙ w.so_far [];
        }
