-- Two answers that a promise of the reader allows are equal, the lent words too. Assumes nothing.
use mathlib.Core.Path.{◌≡◌, refl, sym, ◌∙◌, ap, subst}
use mathlib.Core.List.{List, [], ◌∷◌}
use Prim.Native.Nat.{ℕ, ◌-◌, ◌^◌, ◌≤◌, ◌<◌}
use native.Mathlib.Omega.{arith}
use lib.ListN.{length, get_or, take, drop, length-drop}
use lib.Seq.{length-take-le}
use Rattle.limits.specs.Limits.{most_qubits}
use Rattle.answers.specs.Verdict.{Verdict, accepted, refused, then}
use Rattle.answers.proofs.Known.{one_refusal}
use Rattle.packing.specs.View.{rows_of, Holds}
use Rattle.packing.proofs.Determined.{determined}
use Rattle.records.specs.Reading.{Read, read_of}
use Rattle.reading.specs.declared.Last.{Last}
use Rattle.reading.specs.declared.Record.{Record}
use Rattle.std.specs.Prelude.{Result, Ok, Err}
use Rattle.answers.specs.declared.Refusal.{Refusal}
use Rattle.answers.specs.Refusals.{number_of, place_of, told}
use Rattle.reading.specs.Answer.{told_read, qubits_held, Besides, Reads, read_from, handed, Hands}
use Rattle.reading.proofs.Most.{accepted_most}

-- words of 64 bits, as those of an array are
abbrev pub Of64Bits : List ℕ → Type 0
Of64Bits w = (i : ℕ) → get_or w i 0 < 2 ^ 64

few_qubits : (s : List ℕ) → (handed (read_of s)).qubits ≤ most_qubits
few_qubits s = go (read_of s) refl
  where
    go : (v : Verdict Read) → read_of s ≡ v → (handed v).qubits ≤ most_qubits
    go (accepted r) e = accepted_most s r e
    go (refused number place) e = omega arith

-- the outcomes that are handed out; at a refusal none
abbrev pub outcomes_told : Result Record Refusal → List ℕ
outcomes_told (Ok h) = h.outcomes.now
outcomes_told (Err why) = []

-- a refusal's number and place, or zeros; the record's length and n, or zeros
abbrev pub numbers_told : Result Record Refusal → List ℕ
numbers_told (Ok h) = 0 ∷ 0 ∷ h.size ∷ h.qubits ∷ []
numbers_told (Err why) = number_of why ∷ place_of why ∷ 0 ∷ 0 ∷ []

-- the same, as the definition of the record in the bytes says it
abbrev in_numbers : Verdict Read → List ℕ
in_numbers (accepted r) = 0 ∷ 0 ∷ r.size ∷ r.qubits ∷ []
in_numbers (refused number place) = number ∷ place ∷ 0 ∷ 0 ∷ []

module _ (w : List ℕ) where
  outcomes_read : (r : Result Record Refusal) → outcomes_told r ≡ (handed (then (told r) (λ h. accepted (read_from w h)))).marks
  outcomes_read (Ok h) = refl
  outcomes_read (Err why) = refl

  numbers_read : (r : Result Record Refusal) → numbers_told r ≡ in_numbers (then (told r) (λ h. accepted (read_from w h)))
  numbers_read (Ok h) = refl
  numbers_read (Err why) = refl

-- what is handed out of the bytes: the outcomes, the words, the numbers; and all of it at once, the record or the same refusal
pub hands_one : (s : List ℕ) (r r' : Result Record Refusal) (w w' : List ℕ) → Of64Bits w → Of64Bits w' → Hands s r w → Hands s r' w'
    → (outcomes_told r ≡ outcomes_told r') × (w ≡ w') × (numbers_told r ≡ numbers_told r') × (then (told r) (λ h. accepted (read_from w h)) ≡ then (told r') (λ h. accepted (read_from w' h)))
hands_one s r r' w w' f f' a b =
    let e : then (told r) (λ h. accepted (read_from w h)) ≡ then (told r') (λ h. accepted (read_from w' h)) = a.answer ∙ sym b.answer in (
      outcomes_read w r ∙ ap (λ v. (handed v).marks) e ∙ sym (outcomes_read w' r'),
      determined (handed (read_of s)).qubits (few_qubits s) w w' a.holds b.holds (a.rows ∙ sym b.rows) f f',
      numbers_read w r ∙ ap in_numbers e ∙ sym (numbers_read w' r'),
      e,
    )

-- ---- answers by their cases

-- n and the rows of the words are those that are handed out
held : (s : List ℕ) (a : Result Last Refusal) (w : List ℕ) → Reads s a w → (qubits_held a ≡ (handed (read_of s)).qubits) × (rows_of (qubits_held a) w ≡ (handed (read_of s)).rows)
held s a w r = go a r.answer r.besides
  where
    go : (f : Result Last Refusal) → told_read s w f ≡ read_of s → Besides s w f → (qubits_held f ≡ (handed (read_of s)).qubits) × (rows_of (qubits_held f) w ≡ (handed (read_of s)).rows)
    go (Ok l) e b = (ap (λ v. (handed v).qubits) e, ap (λ v. (handed v).rows) e)
    go (Err why) e b = (ap (λ v. (handed v).qubits) e, b ∙ ap (λ v. (handed v).rows) e)

module _ (s v w : List ℕ) where
  never : {A : Type 0} (r : Read) (number place : ℕ) → accepted r ≡ refused number place → A
  never r number place e = let z : ◌≡◌ {A = ℕ} 0 1 = cc in absurd (omega arith)

  one_found : (f g : Result Last Refusal) → told_read s v f ≡ told_read s w g → Besides s v f → Besides s w g → f ≡ g
  one_found (Ok l) (Ok m) e a b =
      let sizes : length s - l.start ≡ length s - m.start = ap (λ u. (handed u).size) e in
      let p : l.start ≡ m.start = omega (arith, a.inside, b.inside) in
      let lengths : length (take l.outcomes (drop l.start s)) ≡ length (take m.outcomes (drop m.start s)) = ap (λ u. length (handed u).marks) e in
      let q : l.outcomes ≡ m.outcomes =
      sym (length-take-le l.outcomes (drop l.start s) (omega (arith, length-drop l.start s, a.inside))) ∙ lengths
      ∙ length-take-le m.outcomes (drop m.start s) (omega (arith, length-drop m.start s, b.inside)) in
      let r : l.qubits ≡ m.qubits = ap (λ u. (handed u).qubits) e in
      λ i. Ok (record { start = p i; outcomes = q i; qubits = r i })
  one_found (Ok l) (Err why) e a b = never _ _ _ e
  one_found (Err why) (Ok l) e a b = never _ _ _ (sym e)
  one_found (Err why) (Err why') e a b = ap Err (one_refusal why why' (ap number_in e) (ap place_in e))
    where
      number_in : Verdict Read → ℕ
      number_in (accepted r) = 0
      number_in (refused number place) = number

      place_in : Verdict Read → ℕ
      place_in (accepted r) = 0
      place_in (refused number place) = place

pub reads_one : (s : List ℕ) (a b : Result Last Refusal) (v w : List ℕ) → Of64Bits v → Of64Bits w → Reads s a v → Reads s b w → (a ≡ b) × (v ≡ w)
reads_one s a b v w fv fw ra rb =
    let ha = held s a v ra in
    let hb = held s b w rb in
    let n : qubits_held b ≡ qubits_held a = hb.0 ∙ sym ha.0 in
    let hw : Holds (qubits_held a) w = subst (λ (m : ℕ). Holds m w) n rb.holds in
    let rows : rows_of (qubits_held a) v ≡ rows_of (qubits_held a) w = ha.1 ∙ sym hb.1 ∙ ap (λ (m : ℕ). rows_of m w) n in (
      one_found s v w a b (ra.answer ∙ sym rb.answer) ra.besides rb.besides,
      determined (qubits_held a) (subst (λ (m : ℕ). m ≤ most_qubits) (sym ha.0) (few_qubits s)) v w ra.holds hw rows fv fw,
    )
