-- From what the library promises to what an exported function returns and answers. Assumes nothing.
use mathlib.Core.Path.{◌≡◌, refl, sym, ◌∙◌, ap}
use mathlib.Core.List.{List, [], ◌∷◌}
use Prim.Native.Nat.{ℕ, ◌≤◌}
use native.Mathlib.Omega.{arith}
use lib.ListN.{length}
use Rattle.std.specs.Prelude.{Result, Ok, Err}
use Rattle.answers.specs.declared.Refusal.{Refusal}
use Rattle.answers.specs.Verdict.{Verdict, accepted, refused}
use Rattle.answers.specs.Refusals.{number_of, place_of, told, Writes}
use Rattle.records.proofs.Again.{read_inside}
use Rattle.reading.specs.declared.Record.{Record}
use Rattle.reading.specs.Answer.{Hands, read_from}
use Rattle.run.specs.declared.Ran.{Ran}
use Rattle.run.specs.Run.{Sheet, run_of, ran_of, rest_of, Runs}
use Rattle.senghovai.specs.Exports.{verdict_number, run_places, ExportsRun, write_places, ExportsWritten}

-- bytes written
pub wrote : (v : Verdict (List ℕ)) (old : List ℕ) (w : Result ℕ Refusal) (number : ℕ) (answer new : List ℕ) → Writes v old w new
    → number ≡ verdict_number (told w) → answer ≡ write_places (told w) → ExportsWritten v old number answer new
wrote v old w number answer new p n a = record { number_is = n ∙ ap verdict_number p.answer; answer_is = a ∙ ap write_places p.answer; buffer = p.buffer }

-- a verdict that is known
pub is_told : {A : Type 0} (f : Verdict A → List ℕ) (v w : Verdict A) → w ≡ v → (verdict_number w ≡ verdict_number v) × (f w ≡ f v)
is_told f v w e = (ap verdict_number e, ap f e)

-- a run that was accepted, and one that was refused
pub ran : (circuit coins old : List ℕ) (a : Ran) (rest new : List ℕ) → Runs circuit coins old (Ok a) rest new
    → ExportsRun circuit coins old 0 (0 ∷ a.size ∷ length rest ∷ a.tally.measured ∷ a.tally.random ∷ a.tally.taken ∷ []) new
ran circuit coins old a rest new r = let t = go (run_of circuit coins (length old)) r.answers r.hands_back in record { number_is = t.0; answer_is = t.1; buffer = r.buffer }
  where
    go : (v : Verdict Sheet) → accepted a ≡ ran_of v → rest ≡ rest_of v coins
        → (0 ≡ verdict_number v) × ((0 ∷ a.size ∷ length rest ∷ a.tally.measured ∷ a.tally.random ∷ a.tally.taken ∷ []) ≡ run_places coins v)
    go (accepted s) e h =
        let z : a ≡ record { size = length s.bytes; tally = s.tally } = cc in
        (refl, λ i. 0 ∷ (z i).size ∷ length (h i) ∷ (z i).tally.measured ∷ (z i).tally.random ∷ (z i).tally.taken ∷ [])
    go (refused number place) e h = absurd (let z : ◌≡◌ {A = ℕ} 0 1 = cc in omega arith)

pub not_run : (circuit coins old : List ℕ) (q : Refusal) (rest new : List ℕ) → Runs circuit coins old (Err q) rest new
    → ExportsRun circuit coins old (number_of q) (place_of q ∷ 0 ∷ length rest ∷ 0 ∷ 0 ∷ 0 ∷ []) new
not_run circuit coins old q rest new r = let t = go (run_of circuit coins (length old)) r.answers r.hands_back in record { number_is = t.0; answer_is = t.1; buffer = r.buffer }
  where
    go : (v : Verdict Sheet) → refused (number_of q) (place_of q) ≡ ran_of v → rest ≡ rest_of v coins
        → (number_of q ≡ verdict_number v) × ((place_of q ∷ 0 ∷ length rest ∷ 0 ∷ 0 ∷ 0 ∷ []) ≡ run_places coins v)
    go (accepted s) e h = absurd (let z : ◌≡◌ {A = ℕ} 0 1 = cc in omega arith)
    go (refused number place) e h =
        let m : number_of q ≡ number = cc in
        let p : place_of q ≡ place = cc in
        (m, λ i. p i ∷ 0 ∷ length (h i) ∷ 0 ∷ 0 ∷ 0 ∷ [])

-- a record that was read lies within the bytes
pub told_inside : (s w : List ℕ) (h : Record) → Hands s (Ok h) w → h.size ≤ length s
told_inside s w h t = read_inside s (read_from w h) (sym t.answer)
