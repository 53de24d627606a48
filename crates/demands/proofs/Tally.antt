-- The promise of the run leaves no choice; a number 0 tells that it was accepted; and the tally of an accepted call is that of its record's bytes and of the
-- coins. Assumes nothing.
use mathlib.Core.Path.{◌≡◌, refl, sym, ◌∙◌, ap, ap₂}
use mathlib.Core.List.{List, [], ◌∷◌, map}
use Prim.Native.Nat.{ℕ, ◌+◌, ◌≤◌}
use native.Mathlib.Omega.{arith}
use lib.ListN.{length, get_or, take, drop, length-map}
use lib.Seq.{take_at}
use Rattle.answers.specs.Verdict.{Verdict, accepted, refused, over}
use Rattle.answers.proofs.Numbered.{RefusedBy}
use Rattle.answers.proofs.Known.{one_answer}
use Rattle.answers.specs.declared.Refusal.{Refusal}
use Rattle.std.specs.Prelude.{Result}
use Rattle.run.specs.declared.Ran.{Ran}
use Rattle.clifford.specs.declared.Outcome.{Outcome}
use Rattle.records.specs.Record.{mark, outcome_of}
use Rattle.records.specs.Reading.{outcome_part}
use Rattle.records.proofs.Outcomes.{mark_back}
use Rattle.records.proofs.Written.{outcomes_written}
use Rattle.tally.specs.declared.Tally.{Tally}
use Rattle.tally.specs.Tally.{one_if, randoms, tally_of}
use Rattle.tally.proofs.Tallies.{tally_tied}
use Rattle.run.specs.Run.{Sheet, sheet, run_of, ran_of, numbers, rest_of, buffer_after, Runs}
use Rattle.run.proofs.ReadBack.{AcceptedRun, accepted_run, held}
use Rattle.run.proofs.Numbered.{run_numbered}
use Rattle.demands.specs.Calls.{Call, told_numbers, number_told, written, how_many, Tallied}

-- two answers that the promise allows are equal, and so are the coins handed back and the lent bytes afterwards
pub run_one : (text coins old : List ℕ) (a b : Result Ran Refusal) (r s v w : List ℕ) → Runs text coins old a r v → Runs text coins old b s w → (a ≡ b) × (r ≡ s) × (v ≡ w)
run_one text coins old a b r s v w p q = (one_answer a b (p.answers ∙ sym q.answers), p.hands_back ∙ sym q.hands_back, p.buffer ∙ sym q.buffer)

-- an accepted call: its sheet, and what the promise then says
pub record AcceptedCall {text : List ℕ} (p : Call text) : Type 0 where
  pub sheet : Sheet
  pub is : run_of text p.coins (length p.old) ≡ accepted sheet
  pub answer : told_numbers p ≡ numbers (ran_of (accepted sheet))
  pub rest : p.rest ≡ drop sheet.tally.taken p.coins
  pub new : p.new ≡ over sheet.bytes p.old

-- the number 0 tells that the call was accepted
pub accepted_call : (text : List ℕ) (p : Call text) → number_told p ≡ 0 → AcceptedCall p
accepted_call text p z = go (run_of text p.coins (length p.old)) refl (run_numbered text p.coins (length p.old))
  where
    go : (v : Verdict Sheet) → run_of text p.coins (length p.old) ≡ v → RefusedBy (λ m. 1 ≤ m) v → AcceptedCall p
    go (accepted s) e h = record {
      sheet = s;
      is = e;
      answer = ap numbers (p.keeps.answers ∙ ap ran_of e);
      rest = p.keeps.hands_back ∙ ap (λ v. rest_of v p.coins) e;
      new = p.keeps.buffer ∙ ap (λ v. buffer_after v p.old) e;
    }
    go (refused number place) e h = absurd (let q : number_told p ≡ number = ap (λ l. get_or l 0 0) (ap numbers (p.keeps.answers ∙ ap ran_of e)) in omega (arith, q, z, h))

-- its record stands at the buffer's front
pub written_is : (text : List ℕ) (p : Call text) (a : AcceptedCall p) → written p ≡ a.sheet.bytes
written_is text p a =
    ap₂ (λ (l s : List ℕ). take (get_or l 2 0) s) a.answer a.new ∙ take_at a.sheet.bytes (drop (length a.sheet.bytes) p.old) (length a.sheet.bytes) refl

-- as many random marks as random outcomes
marks_random : (outcomes : List Outcome) → how_many (λ b. (outcome_of b).random) (map mark outcomes) ≡ randoms outcomes
marks_random [] = refl
marks_random (o ∷ outcomes) = ap₂ (λ (k : Outcome) (m : ℕ). one_if k.random + m) (mark_back o.random o.value) (marks_random outcomes)

module _ (text : List ℕ) (p : Call text) (z : number_told p ≡ 0) where
  pub call : AcceptedCall p
  call = accepted_call text p z

  pub ran : AcceptedRun text p.coins call.sheet
  ran = accepted_run text p.coins (length p.old) call.sheet call.is

  abbrev outcomes : List Outcome
  outcomes = ran.state.outcomes

  tally_is : call.sheet.tally ≡ tally_of p.coins ran.state
  tally_is = ap (λ (s : Sheet). s.tally) ran.is

  marks_are : outcome_part (written p) ≡ map mark outcomes
  marks_are =
      ap outcome_part (written_is text p call ∙ ap (λ (s : Sheet). s.bytes) ran.is)
      ∙ outcomes_written ran.circuit.qubits (map mark outcomes) ran.state.rows (held text p.coins call.sheet ran) []

  pub told : (k : ℕ) → get_or (told_numbers p) k 0 ≡ get_or (numbers (ran_of (accepted (sheet ran.circuit.qubits p.coins ran.state)))) k 0
  told k = ap (λ l. get_or l k 0) (call.answer ∙ ap (λ s. numbers (ran_of (accepted s))) ran.is)

  -- the tally of an accepted call
  pub tallied : Tallied p
  tallied =
      let t = tally_tied ran.circuit.qubits 2 ran.circuit.ops p.coins ran.state ran.ran in
      record {
        measured = told 3 ∙ sym (length-map outcomes mark) ∙ ap length (sym marks_are);
        random = told 4 ∙ sym (marks_random outcomes) ∙ ap (how_many (λ b. (outcome_of b).random)) (sym marks_are);
        taken = told 5 ∙ sym t.random_taken ∙ sym (told 4);
        rest = call.rest ∙ ap (λ (k : ℕ). drop k p.coins) (ap (λ (u : Tally). u.taken) tally_is ∙ sym (told 5));
      }

  -- and the coins that the run itself has left are those handed back
  pub rest_is_left : p.rest ≡ ran.state.coins
  rest_is_left =
      let t = tally_tied ran.circuit.qubits 2 ran.circuit.ops p.coins ran.state ran.ran in
      call.rest ∙ ap (λ (u : Tally). drop u.taken p.coins) tally_is ∙ sym t.rest
