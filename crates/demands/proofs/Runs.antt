-- Four runs of one circuit whose coins are alike are refused alike, or come to ends that are alike, with one tally. Assumes nothing.
use mathlib.Core.Path.{◌≡◌, refl, sym, ◌∙◌, ap, ap₂}
use mathlib.Core.Bool.{Bool, true, false}
use mathlib.Core.List.{List, [], ◌∷◌}
use Prim.Native.Nat.{ℕ, ◌+◌, ◌-◌}
use native.Mathlib.Omega.{arith}
use lib.Bits.{bit_xor}
use lib.Dec.{leb}
use lib.ListN.{length}
use Rattle.answers.specs.Verdict.{Verdict, accepted, refused, then, unless}
use Rattle.pauli.specs.Letters.{◌⊕◌}
use Rattle.clifford.specs.declared.Outcome.{Outcome}
use Rattle.clifford.specs.Run.{State, coin}
use Rattle.clifford.proofs.Alike.{OutcomeAlike, AllAlike, done, more, CoinAlike, StateAlike, Alike, all_refused, all_accepted, alike_run, one_length, begin_alike}
use Rattle.words.proofs.BitLaws.{bit-low, bit-xor}
use Rattle.circuit.specs.Text.{Circuit, meaning, count_measured}
use Rattle.records.specs.Record.{record_length}
use Rattle.tally.specs.Tally.{one_if, randoms, tally_of}
use Rattle.run.specs.Run.{Sheet, sheet, run_circuit, run_of}
use Rattle.demands.specs.Alike.{xor3}

-- four sheets of one circuit, from ends that are alike
pub record SheetsAlike (text : List ℕ) (a b c d : Sheet) : Type 0 where
  pub circuit : Circuit
  pub meant : meaning text ≡ accepted circuit
  pub end_a : State
  pub end_b : State
  pub end_c : State
  pub end_d : State
  pub ends : StateAlike end_a end_b end_c end_d
  pub lent : List ℕ
  pub a_is : a ≡ sheet circuit.qubits lent end_a
  pub b_is : b ≡ record { bytes = (sheet circuit.qubits lent end_b).bytes; tally = a.tally }
  pub c_is : c ≡ record { bytes = (sheet circuit.qubits lent end_c).bytes; tally = a.tally }
  pub d_is : d ≡ record { bytes = (sheet circuit.qubits lent end_d).bytes; tally = a.tally }

pub data RunsAlike (text : List ℕ) : Verdict Sheet → Verdict Sheet → Verdict Sheet → Verdict Sheet → Type 0 where
  refused_alike : {number place : ℕ} → RunsAlike text (refused number place) (refused number place) (refused number place) (refused number place)
  accepted_alike : {a b c d : Sheet} → SheetsAlike text a b c d → RunsAlike text (accepted a) (accepted b) (accepted c) (accepted d)

-- the number of random outcomes goes by the kinds alone
kinds_alike : {a b c d : List Outcome} → AllAlike OutcomeAlike a b c d → (randoms b ≡ randoms a) × (randoms c ≡ randoms a) × (randoms d ≡ randoms a)
kinds_alike done = (refl, refl, refl)
kinds_alike (more r s) =
    let w = kinds_alike s in
    (ap₂ (λ k m. one_if k + m) r.second w.0, ap₂ (λ k m. one_if k + m) r.third w.1, ap₂ (λ k m. one_if k + m) r.fourth w.2)

one_tally : (lent other : List ℕ) (s t : State) → length other ≡ length lent → length t.outcomes ≡ length s.outcomes → randoms t.outcomes ≡ randoms s.outcomes → length t.coins ≡ length s.coins
    → tally_of other t ≡ tally_of lent s
one_tally lent other s t l m r c = λ i. record { measured = m i; random = r i; taken = l i - c i }

module _ (text : List ℕ) (circuit : Circuit) (meant : meaning text ≡ accepted circuit) {a b c d : List ℕ} (lent : AllAlike CoinAlike a b c d) where
  sheets : {e f g h : State} → StateAlike e f g h → SheetsAlike text (sheet circuit.qubits a e) (sheet circuit.qubits b f) (sheet circuit.qubits c g) (sheet circuit.qubits d h)
  sheets {e} {f} {g} {h} s =
      let l = one_length lent in
      let m = one_length s.outcomes in
      let r = kinds_alike s.outcomes in
      let k = one_length s.coins in
      record {
        circuit = circuit;
        meant = meant;
        end_a = e;
        end_b = f;
        end_c = g;
        end_d = h;
        ends = s;
        lent = a;
        a_is = refl;
        b_is = λ i. record { bytes = (sheet circuit.qubits b f).bytes; tally = one_tally a b e f l.0 m.0 r.0 k.0 i };
        c_is = λ i. record { bytes = (sheet circuit.qubits c g).bytes; tally = one_tally a c e g l.1 m.1 r.1 k.1 i };
        d_is = λ i. record { bytes = (sheet circuit.qubits d h).bytes; tally = one_tally a d e h l.2 m.2 r.2 k.2 i };
      }

  finished : {p q r s : Verdict State} → Alike p q r s
      → RunsAlike text (then p (λ e. accepted (sheet circuit.qubits a e))) (then q (λ e. accepted (sheet circuit.qubits b e)))
      (then r (λ e. accepted (sheet circuit.qubits c e))) (then s (λ e. accepted (sheet circuit.qubits d e)))
  finished all_refused = refused_alike
  finished (all_accepted s) = accepted_alike (sheets s)

-- four coin lists that are alike give four runs that are alike
pub runs_alike : (text : List ℕ) (room : ℕ) {a b c d : List ℕ} → AllAlike CoinAlike a b c d → RunsAlike text (run_of text a room) (run_of text b room) (run_of text c room) (run_of text d room)
unfolding run_of run_circuit
runs_alike text room {a} {b} {c} {d} u = go (meaning text) refl
  where
    check : (circuit : Circuit) → meaning text ≡ accepted circuit → (t : Bool)
        → RunsAlike text (unless t 8 0 (run_circuit circuit a)) (unless t 8 0 (run_circuit circuit b)) (unless t 8 0 (run_circuit circuit c)) (unless t 8 0 (run_circuit circuit d))
    check circuit m true = finished text circuit m u (alike_run circuit.qubits 2 circuit.ops (begin_alike circuit.qubits u))
    check circuit m false = refused_alike

    go : (v : Verdict Circuit) → meaning text ≡ v
        → RunsAlike text (then v (λ m. unless (leb (record_length m.qubits (count_measured m.ops)) room) 8 0 (run_circuit m a)))
        (then v (λ m. unless (leb (record_length m.qubits (count_measured m.ops)) room) 8 0 (run_circuit m b)))
        (then v (λ m. unless (leb (record_length m.qubits (count_measured m.ops)) room) 8 0 (run_circuit m c)))
        (then v (λ m. unless (leb (record_length m.qubits (count_measured m.ops)) room) 8 0 (run_circuit m d)))
    go (accepted m) e = check m e (leb (record_length m.qubits (count_measured m.ops)) room)
    go (refused number place) e = refused_alike

coin_xor : (x y : ℕ) → coin (bit_xor x y) ≡ coin x ⊕ coin y
coin_xor x y = sym (bit-low (bit_xor x y)) ∙ bit-xor 0 x y ∙ ap₂ (λ p q. p ⊕ q) (bit-low x) (bit-low y)

-- three lists of one length, and their exclusive-or
pub three_alike : (a b c : List ℕ) → length b ≡ length a → length c ≡ length a → AllAlike CoinAlike a b c (xor3 a b c)
three_alike [] [] [] p q = done
three_alike [] [] (z ∷ c) p q = absurd (omega arith)
three_alike [] (y ∷ b) c p q = absurd (omega arith)
three_alike (x ∷ a) [] c p q = absurd (omega arith)
three_alike (x ∷ a) (y ∷ b) [] p q = absurd (omega arith)
three_alike (x ∷ a) (y ∷ b) (z ∷ c) p q =
    more (record { is = coin_xor (bit_xor x y) z ∙ ap (λ t. t ⊕ coin z) (coin_xor x y) }) (three_alike a b c (omega arith) (omega arith))
