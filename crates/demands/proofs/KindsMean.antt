-- What the kind and the value of an outcome say, of the bytes of calls: the outcome of a measurement is `0` or `1` exactly when plus Z or minus Z on its qubit is a
-- product of the stabilizer rows of the record that the same run leaves when its text ends before that line. Assumes nothing.
use mathlib.Core.Path.{◌≡◌, refl, sym, ◌∙◌, ap, subst}
use mathlib.Core.Bool.{Bool, true, false, true≢false}
use mathlib.Core.List.{List, [], ◌∷◌, ◌++◌, map, append_assoc}
use mathlib.Core.Logic.{◌⊎◌, inl, inr, ◌↔◌}
use Prim.Native.Nat.{ℕ, suc, ◌+◌, ◌≤◌, ◌<◌}
use native.Mathlib.Omega.{arith}
use lib.ListN.{length, get_or, length-map, length-append}
use Rattle.answers.specs.Verdict.{Verdict, accepted, then}
use Rattle.answers.proofs.Accepting.{Accepted, then_accepted}
use Rattle.clifford.specs.declared.After.{After}
use Rattle.clifford.specs.declared.Op.{Op}
use Rattle.clifford.specs.declared.Op.TheVariants.{Measure as measure}
use Rattle.clifford.specs.Tableau.{Rows}
use Rattle.clifford.specs.declared.Outcome.{Outcome}
use Rattle.clifford.specs.Generators.{FixedAt}
use Rattle.clifford.specs.Run.{State, begin, step, run}
use Rattle.clifford.proofs.Running.{run_joined}
use Rattle.clifford.proofs.Adding.{ToldAs, step_measured, run_adds}
use Rattle.circuit.specs.Text.{Circuit, meaning, count_measured}
use Rattle.circuit_writer.proofs.Longer.{Longer, longer_text, cut_text}
use Rattle.records.specs.Record.{mark_of, mark, record_of, record_length}
use Rattle.records.specs.Reading.{qubits_in, Read, read_of}
use Rattle.records.proofs.Bytes.{mark_byte}
use Rattle.records.proofs.Taken.{taken}
use Rattle.records.proofs.Meant.{accepted_fixed_at}
use Rattle.walking.proofs.Counting.{counted_both}
use Rattle.run.specs.Run.{Sheet, sheet, run_of, ran_of, numbers}
use Rattle.run.proofs.ReadBack.{AcceptedRun, accepted_fits, run_accepts, reads_back}
use Rattle.demands.specs.Calls.{Call, number_told, measured_told, written}
use Rattle.demands.specs.Kinds.{Goes_on, StopsBefore, ZMade, KindMeans}
use Rattle.demands.proofs.Tally.{call, ran, told, written_is}

not_random : {A : Type 0} (k : ℕ) → k < 50 → (k ≡ 50) ⊎ (k ≡ 51) → A
not_random k h (inl e) = absurd (omega arith)
not_random k h (inr e) = absurd (omega arith)

-- an outcome that the measurement rule tells, by what Z on a is a product of
module _ (n a : ℕ) (t : Rows) (before : List ℕ) (exactly : (m : Bool) → FixedAt n a t m ↔ ZMade before a m) where
  never : {A : Type 0} → FixedAt n a t false → FixedAt n a t true → A
  never f g = absurd (true≢false (sym g.is ∙ f.is))

  kind_told : (random value : Bool) → ToldAs n a t random value → KindMeans before a (mark_of random value)
  kind_told false false f = record {
    zero = (λ e. (exactly false).0 f, λ z. refl);
    one = (λ e. absurd (omega (arith, e)), λ z. never f ((exactly true).1 z));
    random = (λ e. not_random 48 (omega arith) e, λ z. absurd (z.0 ((exactly false).0 f)));
  }
  kind_told false true f = record {
    zero = (λ e. absurd (omega (arith, e)), λ z. never ((exactly false).1 z) f);
    one = (λ e. (exactly true).0 f, λ z. refl);
    random = (λ e. not_random 49 (omega arith) e, λ z. absurd (z.1 ((exactly true).0 f)));
  }
  kind_told true false f = record {
    zero = (λ e. absurd (omega (arith, e)), λ z. absurd (f ((exactly false).1 z).fixed));
    one = (λ e. absurd (omega (arith, e)), λ z. absurd (f ((exactly true).1 z).fixed));
    random = (λ e. (λ z. f ((exactly false).1 z).fixed, λ z. f ((exactly true).1 z).fixed), λ z. inl refl);
  }
  kind_told true true f = record {
    zero = (λ e. absurd (omega (arith, e)), λ z. absurd (f ((exactly false).1 z).fixed));
    one = (λ e. absurd (omega (arith, e)), λ z. absurd (f ((exactly true).1 z).fixed));
    random = (λ e. (λ z. f ((exactly false).1 z).fixed, λ z. f ((exactly true).1 z).fixed), λ z. inr refl);
  }

-- the character behind those of the first outcomes
next_mark : (first : List Outcome) (o : Outcome) (rest : List Outcome) → get_or (map mark (first ++ (o ∷ rest))) (length first) 0 ≡ mark o
next_mark [] o rest = refl
next_mark (x ∷ first) o rest = next_mark first o rest

-- the run of the longer text, from where the shorter one ends
record WentOn (n a : ℕ) (s e : State) : Type 0 where
  outcome : Outcome
  rest : List Outcome
  added : e.outcomes ≡ s.outcomes ++ (outcome ∷ rest)
  told : ToldAs n a s.rows outcome.random outcome.value

went_on : (n line : ℕ) (f : After) (a : ℕ) (more : List Op) (s e : State) → run n line (measure f a ∷ more) s ≡ accepted e → WentOn n a s e
went_on n line f a more s e q =
    let w = then_accepted (step n line (measure f a) s) (run n (suc line) more) e q in
    let m = step_measured n line f a s w.value w.first in
    let d = run_adds n (suc line) more w.value e w.later in
    record { outcome = m.outcome; rest = d.more; added = d.is ∙ ap (λ (l : List Outcome). l ++ d.more) m.added ∙ append_assoc s.outcomes (m.outcome ∷ []) d.more; told = m.told }

module _ (short long : List ℕ) (p : Call short) (q : Call long) (lent : q.coins ≡ p.coins) (zp : number_told p ≡ 0) (zq : number_told q ≡ 0) where
  abbrev A : AcceptedRun short p.coins (call short p zp).sheet
  A = ran short p zp

  abbrev B : AcceptedRun long q.coins (call long q zq).sheet
  B = ran long q zq

  abbrev n : ℕ
  n = A.circuit.qubits

  abbrev read : Read
  read = record { qubits = n; size = length (call short p zp).sheet.bytes; marks = map mark A.state.outcomes; rows = A.state.rows }

  reads : read_of (written p) ≡ accepted read
  reads = ap read_of (written_is short p (call short p zp)) ∙ reads_back short p.coins (call short p zp).sheet A []

  n_is : qubits_in (written p) ≡ n
  n_is = ap (λ (r : Read). r.qubits) (taken (written p) read reads).is

  module _ (a : ℕ) (h : a < qubits_in (written p)) (g : Goes_on short long a) where
    exactly : (m : Bool) → FixedAt n a A.state.rows m ↔ ZMade (written p) a m
    exactly m = subst (λ (k : ℕ). FixedAt k a A.state.rows m ↔ ZMade (written p) a m) n_is (accepted_fixed_at (written p) read reads a h m)

    longer : Longer A.circuit B.circuit (measure g.after a)
    longer = longer_text short long A.circuit B.circuit (measure g.after a) g.later A.meant B.meant (subst (λ (k : ℕ). a < k) n_is h) g.is

    all_ran : run n 2 (A.circuit.ops ++ (measure g.after a ∷ longer.more)) (begin n p.coins) ≡ accepted B.state
    all_ran = (λ i. run (sym longer.qubits i) 2 (sym longer.ops i) (begin (sym longer.qubits i) (sym lent i))) ∙ B.ran

    gone : WentOn n a A.state B.state
    gone =
        went_on n (2 + length A.circuit.ops) g.after a longer.more A.state B.state
        (sym (ap (λ (v : Verdict State). then v (run n (2 + length A.circuit.ops) (measure g.after a ∷ longer.more))) A.ran) ∙ sym (run_joined n 2 A.circuit.ops (measure g.after a ∷ longer.more) (begin n p.coins)) ∙ all_ran)

    character : get_or (written q) (measured_told p) 0 ≡ mark gone.outcome
    character =
        ap (λ (s : List ℕ). get_or s (measured_told p) 0) (written_is long q (call long q zq) ∙ ap (λ (s : Sheet). s.bytes) B.is)
        ∙ ap (λ (k : ℕ). get_or (record_of B.circuit.qubits B.state.outcomes B.state.rows) k 0) (told short p zp 3)
        ∙ mark_byte B.circuit.qubits (map mark B.state.outcomes) B.state.rows (length A.state.outcomes) within
        ∙ ap (λ (l : List Outcome). get_or (map mark l) (length A.state.outcomes) 0) gone.added
        ∙ next_mark A.state.outcomes gone.outcome gone.rest
      where
        within : length A.state.outcomes < length (map mark B.state.outcomes)
        within = omega (arith, length-map B.state.outcomes mark, ap length gone.added, length-append A.state.outcomes (gone.outcome ∷ gone.rest))

    kind : KindMeans (written p) a (get_or (written q) (measured_told p) 0)
    kind = subst (KindMeans (written p) a) (sym character) (kind_told n a A.state.rows (written p) exactly gone.outcome.random gone.outcome.value gone.told)

-- two accepted calls with the same coins, the second text going on where the first ends with a measurement of a: the outcome of that line says what Z on a is in the
-- first call's record
pub kinds_mean : (short long : List ℕ) (p : Call short) (q : Call long) → q.coins ≡ p.coins → number_told p ≡ 0 → number_told q ≡ 0 → (a : ℕ) → a < qubits_in (written p) → Goes_on short long a
    → KindMeans (written p) a (get_or (written q) (measured_told p) 0)
kinds_mean = kind

-- the shorter text is accepted where the longer is, with the same coins and no less room
pub shorter_accepted : (short long : List ℕ) (c : Circuit) (p : Call short) (q : Call long) → q.coins ≡ p.coins → length q.old ≤ length p.old → number_told q ≡ 0 → meaning short ≡ accepted c
    → (a : ℕ) → a < c.qubits → Goes_on short long a → number_told p ≡ 0
shorter_accepted short long c p q lent room zq meant a h g = ap (λ (l : List ℕ). get_or l 0 0) (ap numbers (p.keeps.answers ∙ ap ran_of accepts))
  where
    B : AcceptedRun long q.coins (call long q zq).sheet
    B = ran long q zq

    longer : Longer c B.circuit (measure g.after a)
    longer = longer_text short long c B.circuit (measure g.after a) g.later meant B.meant h g.is

    ended : Accepted (run c.qubits 2 c.ops (begin c.qubits p.coins)) (run c.qubits (2 + length c.ops) (measure g.after a ∷ longer.more)) B.state
    ended =
        then_accepted (run c.qubits 2 c.ops (begin c.qubits p.coins)) (run c.qubits (2 + length c.ops) (measure g.after a ∷ longer.more)) B.state
        (sym (run_joined c.qubits 2 c.ops (measure g.after a ∷ longer.more) (begin c.qubits p.coins))
        ∙ (λ i. run (sym longer.qubits i) 2 (sym longer.ops i) (begin (sym longer.qubits i) (sym lent i))) ∙ B.ran)

    fits : record_length c.qubits (count_measured c.ops) ≤ length p.old
    fits =
        let l : record_length c.qubits (count_measured (c.ops ++ (measure g.after a ∷ longer.more))) ≤ length q.old
        = subst (λ (k : ℕ). k ≤ length q.old) (λ i. record_length (longer.qubits i) (count_measured (longer.ops i))) (accepted_fits long q.coins (length q.old) (call long q zq).sheet B.circuit (call long q zq).is B.meant) in
        omega (arith, l, room, counted_both c.ops (measure g.after a ∷ longer.more))

    accepts : run_of short p.coins (length p.old) ≡ accepted (sheet c.qubits p.coins ended.value)
    accepts = run_accepts short p.coins (length p.old) c ended.value meant fits ended.first

-- and there is such a text for each measurement of a text that has a meaning
pub each_measurement : (long : List ℕ) (n : ℕ) (front : List Op) (f : After) (a : ℕ) (more : List Op) → meaning long ≡ accepted (record { qubits = n; ops = front ++ (measure f a ∷ more) }) → StopsBefore long n front a
each_measurement long n front f a more m =
    let c = cut_text long n front (measure f a) more m in
    record { short = c.short; meant = c.meant; goes_on = record { after = f; later = c.later; is = c.is } }
