-- The numbers with which a run is refused: none is 0, and with room for the longest record none is 8. Assumes nothing.
use mathlib.Core.Path.{◌≡◌, refl}
use mathlib.Core.Bool.{true}
use mathlib.Core.List.{List, [], ◌∷◌}
use Rattle.std.specs.Prelude.{Option, None, Some}
use Prim.Native.Nat.{ℕ, suc, ◌≤◌}
use native.Mathlib.Omega.{arith}
use lib.Dec.{leb}
use borrow.Author.Tests.{le-leb}
use Rattle.answers.specs.Verdict.{Verdict, accepted, refused, then, unless}
use Rattle.answers.proofs.Numbered.{RefusedBy, by_then, by_unless, by_more, never_given, Not8}
use Rattle.clifford.specs.declared.After.{After}
use Rattle.clifford.specs.declared.Op.{Op}
use Rattle.clifford.specs.declared.Op.TheVariants.{Gate as apply, Measure as measure}
use Rattle.clifford.specs.Measurement.{random_row}
use Rattle.clifford.specs.Run.{State, begin, settle, step, run}
use Rattle.circuit.specs.Text.{Circuit, meaning, count_measured}
use Rattle.circuit.proofs.Numbered.{ByText, meaning_numbered}
use Rattle.checking.proofs.Meant.{parts}
use Rattle.records.specs.Record.{record_length, longest_record}
use Rattle.records.proofs.Lengths.{record_within}
use Rattle.walking.proofs.Counting.{measured_few}
use Rattle.run.specs.Run.{sheet, run_circuit, run_of}

abbrev Seven : ℕ → Type 0
Seven m = m ≡ 7

abbrev Positive : ℕ → Type 0
Positive m = 1 ≤ m

-- the operations of a circuit are refused by 7 alone
pub ran_seven : (n line : ℕ) (ops : List Op) (s : State) → RefusedBy (λ m. m ≡ 7) (run n line ops s)
ran_seven n line [] s = tt
ran_seven n line (op ∷ ops) s = by_then Seven (step n line op s) (run n (suc line) ops) (one op) (ran_seven n (suc line) ops)
  where
    settled : (f : After) (a : ℕ) (o : Option ℕ) (coins : List ℕ) → RefusedBy Seven (settle n line f a s o coins)
    settled f a None coins = tt
    settled f a (Some p) [] = refl
    settled f a (Some p) (byte ∷ coins) = tt

    one : (o : Op) → RefusedBy Seven (step n line o s)
    one (apply g) = tt
    one (measure f a) = settled f a (random_row n a s.rows) s.coins

circuit_seven : (c : Circuit) (coins : List ℕ) → RefusedBy Seven (run_circuit c coins)
unfolding run_circuit
circuit_seven c coins = by_then Seven (run c.qubits 2 c.ops (begin c.qubits coins)) (λ e. accepted (sheet c.qubits coins e)) (ran_seven c.qubits 2 c.ops (begin c.qubits coins)) (λ e. tt)

-- no refusal has the number 0
pub run_numbered : (text coins : List ℕ) (room : ℕ) → RefusedBy (λ m. 1 ≤ m) (run_of text coins room)
unfolding run_of
run_numbered text coins room =
    by_then Positive (meaning text) _ (by_more ByText Positive (λ m h. h.0) (meaning text) (meaning_numbered text))
    (λ c. by_unless Positive (leb (record_length c.qubits (count_measured c.ops)) room) 8 0 (run_circuit c coins) (omega arith)
    (by_more Seven Positive (λ m h. omega arith) (run_circuit c coins) (circuit_seven c coins)))

-- with room for the longest record 8 is never given
pub run_has_room : (text coins : List ℕ) (room : ℕ) → longest_record ≤ room → (place : ℕ) → run_of text coins room ≡ refused 8 place → ⊥
unfolding run_of
run_has_room text coins room h place = never_given Not8 (run_of text coins room) (go (meaning text) refl (by_more ByText Not8 (λ m k e. omega (arith, k.1)) (meaning text) (meaning_numbered text))) 8 place (λ k. k refl)
  where
    go : (v : Verdict Circuit) → meaning text ≡ v → RefusedBy Not8 v
        → RefusedBy Not8 (then v (λ c. unless (leb (record_length c.qubits (count_measured c.ops)) room) 8 0 (run_circuit c coins)))
    go (refused number place) e k = k
    go (accepted c) e k =
        let p = parts text c e in
        let l : leb (record_length c.qubits (count_measured c.ops)) room ≡ true
        = le-leb _ room (omega (arith, h, record_within c.qubits (count_measured c.ops) p.few_qubits (omega (arith, measured_few c.ops, p.few_operations)))) in
        rw l (by_more Seven Not8 (λ m k e. omega arith) (run_circuit c coins) (circuit_seven c coins))
