-- A readout is impossible exactly when no coins leave a record that holds it; and of a possible one, exactly one coin list of length k does. Assumes nothing.
use mathlib.Core.Path.{◌≡◌, refl, sym, ◌∙◌, ap, ap₂, subst}
use mathlib.Core.Bool.{Bool, true, false}
use mathlib.Core.List.{List, [], ◌∷◌, map}
use Rattle.std.specs.Prelude.{None}
use Prim.Native.Nat.{ℕ, ◌≤◌}
use native.Mathlib.Omega.{arith}
use borrow.Author.Tests.{eqb-true}
use lib.Dec.{eqb, leb}
use lib.ListN.{length, length-map}
use Rattle.limits.specs.Limits.{most_halvings}
use Rattle.answers.specs.Verdict.{Verdict, accepted, then, unless_at}
use Rattle.answers.proofs.Accepting.{same_accepted, unless_passed, unless_at_passed, then_accepted}
use Rattle.clifford.specs.declared.Outcome.{Outcome}
use Rattle.circuit.specs.Text.{Circuit, meaning, count_measured}
use Rattle.checking.proofs.Meant.{parts}
use Rattle.records.specs.Record.{mark_of, mark, outcome_of, record_length, longest_record}
use Rattle.records.proofs.Lengths.{record_within}
use Rattle.records.proofs.Written.{outcomes_written}
use Rattle.walking.proofs.Counting.{measured_few}
use Rattle.run.specs.Run.{Sheet, sheet}
use Rattle.run.proofs.ReadBack.{AcceptedRun, accepted_run, run_accepts, held}
use Rattle.readouts.specs.Readouts.{Weighed, possible, impossible, weigh_circuit}
use Rattle.readouts.specs.Coins.{readout_of, Gives}
use Rattle.readouts.proofs.Given.{impossible_none, none_impossible, possible_one}
use Rattle.probability.specs.Probability.{value_of, first_other, well_stated, told_limit, probability_of}
use Rattle.probability.specs.ByRuns.{value_byte, readout_in, LeavesReadout, OneLeaves, RuledOut}
use Rattle.probability.proofs.Characters.{all_good, values_back}

-- a question that is answered: the text's circuit, one good character for each measurement, and what the readout comes to
record Asked (text stated : List ℕ) (w : Weighed) : Type 0 where
  circuit : Circuit
  meant : meaning text ≡ accepted circuit
  long : length stated ≡ count_measured circuit.ops
  good : first_other stated ≡ None
  is : weigh_circuit circuit (map value_of stated) ≡ w

limited : (u w : Weighed) → told_limit u ≡ accepted w → u ≡ w
limited (possible k) w e = same_accepted (possible k) w (unless_passed (leb k most_halvings) 14 0 (accepted (possible k)) w e).1
limited (impossible line) w e = same_accepted (impossible line) w e

asked : (text stated : List ℕ) (w : Weighed) → probability_of text stated ≡ accepted w → Asked text stated w
unfolding probability_of
asked text stated w e =
    let m = then_accepted (meaning text) (λ c. well_stated stated (count_measured c.ops) (told_limit (weigh_circuit c (map value_of stated)))) w e in
    let c = m.value in
    let v : Verdict Weighed = told_limit (weigh_circuit c (map value_of stated)) in
    let l = unless_passed (eqb (length stated) (count_measured c.ops)) 15 0 (unless_at 10 (first_other stated) v) w m.later in
    let o = unless_at_passed 10 (first_other stated) v w l.1 in
    record {
      circuit = c;
      meant = m.first;
      long = eqb-true (length stated) (count_measured c.ops) l.0;
      good = o.0;
      is = limited (weigh_circuit c (map value_of stated)) w o.1;
    }

-- the readout in a record of outcomes
readout_mark : (o : Outcome) → value_byte (outcome_of (mark o)).value ≡ value_byte o.value
readout_mark o = go o.random o.value
  where
    go : (r v : Bool) → value_byte (outcome_of (mark_of r v)).value ≡ value_byte v
    go false false = refl
    go false true = refl
    go true false = refl
    go true true = refl

readout_marks : (outcomes : List Outcome) → map (λ b. value_byte (outcome_of b).value) (map mark outcomes) ≡ map value_byte (readout_of outcomes)
readout_marks [] = refl
readout_marks (o ∷ outcomes) = ap₂ ◌∷◌ (readout_mark o) (readout_marks outcomes)

values_again : (values : List Bool) → map value_of (map value_byte values) ≡ values
values_again [] = refl
values_again (false ∷ values) = ap (◌∷◌ false) (values_again values)
values_again (true ∷ values) = ap (◌∷◌ true) (values_again values)

readout_left : (text coins : List ℕ) (s : Sheet) (a : AcceptedRun text coins s) → readout_in s.bytes ≡ map value_byte (readout_of a.state.outcomes)
readout_left text coins s a =
    ap readout_in (ap (λ (u : Sheet). u.bytes) a.is)
    ∙ ap (map (λ b. value_byte (outcome_of b).value)) (outcomes_written a.circuit.qubits (map mark a.state.outcomes) a.state.rows (held text coins s a) [])
    ∙ readout_marks a.state.outcomes

module _ (text stated : List ℕ) (c : Circuit) (meant : meaning text ≡ accepted c) (coins : List ℕ) where
  leaves_gives : (room : ℕ) → LeavesReadout text coins room stated → Gives c coins (map value_of stated)
  leaves_gives room l =
      let a = accepted_run text coins room l.sheet l.is in
      let q : a.circuit ≡ c = same_accepted a.circuit c (sym a.meant ∙ meant) in
      let v : readout_of a.state.outcomes ≡ map value_of stated =
      sym (values_again (readout_of a.state.outcomes)) ∙ ap (map value_of) (sym (readout_left text coins l.sheet a) ∙ l.holds)
      in
      subst (λ (d : Circuit). Gives d coins (map value_of stated)) q (record { state = a.state; ran = a.ran; values = v })

  fits : record_length c.qubits (count_measured c.ops) ≤ longest_record
  fits =
      let p = parts text c meant in
      record_within c.qubits (count_measured c.ops) p.few_qubits (omega (arith, measured_few c.ops, p.few_operations))

  gives_leaves : first_other stated ≡ None → Gives c coins (map value_of stated) → LeavesReadout text coins longest_record stated
  gives_leaves good g =
      let s = sheet c.qubits coins g.state in
      let a : AcceptedRun text coins s = record { circuit = c; meant = meant; state = g.state; ran = g.ran; is = refl } in
      record {
        sheet = s;
        is = run_accepts text coins longest_record c g.state meant fits g.ran;
        holds = readout_left text coins s a ∙ ap (map value_byte) g.values ∙ values_back stated good;
      }

-- a readout that is told to be impossible is in no run's record, whatever the coins
pub ruled_out : (text stated : List ℕ) (line : ℕ) → probability_of text stated ≡ accepted (impossible line) → (coins : List ℕ) (room : ℕ) → LeavesReadout text coins room stated → ⊥
ruled_out text stated line e coins room l =
    let a = asked text stated (impossible line) e in
    impossible_none a.circuit (map value_of stated) (record { line = line; is = a.is }) coins (leaves_gives text stated a.circuit a.meant coins room l)

-- one that is in no run's record is told to be impossible, whatever k would be
pub none_leaves : (text stated : List ℕ) (c : Circuit) → meaning text ≡ accepted c → length stated ≡ count_measured c.ops → first_other stated ≡ None
    → ((coins : List ℕ) → LeavesReadout text coins longest_record stated → ⊥) → RuledOut text stated
unfolding probability_of
none_leaves text stated c meant long good f =
    let i = none_impossible c (map value_of stated) (length-map stated value_of ∙ long) (λ coins g. f coins (gives_leaves text stated c meant coins good g)) in
    record {
      line = i.line;
      is = ap (λ (v : Verdict Circuit). then v (λ d. well_stated stated (count_measured d.ops) (told_limit (weigh_circuit d (map value_of stated))))) meant
          ∙ all_good stated (count_measured c.ops) long good (told_limit (weigh_circuit c (map value_of stated)))
          ∙ ap told_limit i.is;
    }

-- one that is told to be possible is in the record of exactly one coin list of length k
pub one_leaves : (text stated : List ℕ) (k : ℕ) → probability_of text stated ≡ accepted (possible k) → OneLeaves text k stated
one_leaves text stated k e =
    let a = asked text stated (possible k) e in
    let o = possible_one a.circuit k (map value_of stated) (record { long = length-map stated value_of ∙ a.long; is = a.is }) in
    record {
      bits = o.bits;
      many = o.many;
      leaves = λ coins b. gives_leaves text stated a.circuit a.meant coins a.good (o.gives coins b);
      alone = λ coins room m l. o.alone coins m (leaves_gives text stated a.circuit a.meant coins room l);
    }
