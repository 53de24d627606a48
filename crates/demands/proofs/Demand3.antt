-- Demand 3, of calls that keep the run's promise: two coin lists of equal length, and three with the list made by exclusive-or of them. Assumes nothing.
use mathlib.Core.Path.{◌≡◌, refl, sym, ◌∙◌, ap, ap₂}
use mathlib.Core.Bool.{Bool, true, false, cond, true≢false}
use mathlib.Core.List.{List, [], ◌∷◌, map}
use Prim.Native.Nat.{ℕ, ◌≤◌}
use native.Mathlib.Omega.{arith}
use lib.Dec.{ltb}
use lib.ListN.{length, get_or, take, drop, length-map}
use lib.Seq.{take_at, drop_at}
use borrow.Author.Tests.{ltb-true, ltb-false}
use Rattle.answers.specs.Verdict.{Verdict, accepted, refused, over}
use Rattle.pauli.specs.Letters.{◌⊕◌}
use Rattle.pauli.specs.Texts.{sign_byte, is_sign}
use Rattle.clifford.specs.declared.Outcome.{Outcome}
use Rattle.clifford.specs.Run.{State}
use Rattle.records.specs.Record.{mark_of, mark, outcome_of, record_of, record_length}
use Rattle.records.proofs.Lengths.{length-record}
use Rattle.records.specs.Reading.{is_mark}
use Rattle.records.proofs.Outcomes.{mark_fits, mark_back}
use Rattle.records.proofs.RowTexts.{sign_fits}
use Rattle.run.proofs.Numbered.{run_numbered}
use Rattle.run.specs.Run.{Sheet, run_of, ran_of, numbers, rest_of, buffer_after}
use Rattle.demands.specs.Calls.{Call, told_numbers, number_told, size_told, measured_told, written}
use Rattle.demands.specs.Alike.{sign_place, SameKind, RecordsAlike, Leaves, nothing, two_records, xor3, is_minus, byte_of_three, Fourth}
use Rattle.demands.proofs.Bytes.{OutcomesAt, SignsAt, PlaceAlike, place_alike}
use Rattle.clifford.proofs.Alike.{one_length, two_alike}
use Rattle.demands.proofs.Runs.{SheetsAlike, RunsAlike, refused_alike, accepted_alike, runs_alike, three_alike}
use Rattle.demands.proofs.Tally.{AcceptedCall, accepted_call, written_is}

-- ---- place by place

told_outcome : (o : Outcome) (b : ℕ) → b ≡ mark o → outcome_of b ≡ o
told_outcome o b e = ap outcome_of e ∙ mark_back o.random o.value

minus_back : (m : Bool) → is_minus (sign_byte m) ≡ m
minus_back true = refl
minus_back false = refl

same_kind : (a b c d : ℕ) → OutcomesAt a b c d → SameKind a b
same_kind a b c d h = record {
  first = ap is_mark h.a_is ∙ mark_fits h.of_a.random h.of_a.value;
  second = ap is_mark h.b_is ∙ mark_fits h.of_b.random h.of_b.value;
  kind = ap (λ (o : Outcome). o.random) (told_outcome h.of_b b h.b_is) ∙ h.alike.second ∙ sym (ap (λ (o : Outcome). o.random) (told_outcome h.of_a a h.a_is));
}

both_signs : (a b c d : ℕ) → SignsAt a b c d → (is_sign a ≡ true) × (is_sign b ≡ true)
both_signs a b c d h = (ap is_sign h.a_is ∙ sign_fits h.of_a, ap is_sign h.b_is ∙ sign_fits h.of_b)

fourth_outcome : (a b c d : ℕ) → OutcomesAt a b c d → d ≡ mark_of (outcome_of a).random ((outcome_of a).value ⊕ (outcome_of b).value ⊕ (outcome_of c).value)
fourth_outcome a b c d h =
    let ea = told_outcome h.of_a a h.a_is in
    let eb = told_outcome h.of_b b h.b_is in
    let ec = told_outcome h.of_c c h.c_is in
    h.d_is ∙ ap₂ mark_of h.alike.fourth h.alike.values ∙ sym (λ i. mark_of (ea i).random ((ea i).value ⊕ (eb i).value ⊕ (ec i).value))

fourth_sign : (a b c d : ℕ) → SignsAt a b c d → d ≡ sign_byte (is_minus a ⊕ is_minus b ⊕ is_minus c)
fourth_sign a b c d h =
    rw (ap is_minus h.a_is ∙ minus_back h.of_a, ap is_minus h.b_is ∙ minus_back h.of_b, ap is_minus h.c_is ∙ minus_back h.of_c) (h.d_is ∙ ap sign_byte h.alike)

fourth_byte : (n count k a b c d : ℕ) → PlaceAlike n count k a b c d → d ≡ byte_of_three n count k a b c
fourth_byte n count k a b c d h = go (ltb k count) refl
  where
    behind : count ≤ k → (s : Bool) → sign_place n count k ≡ s → d ≡ cond s (sign_byte (is_minus a ⊕ is_minus b ⊕ is_minus c)) a
    behind l true e = fourth_sign a b c d (h.sign l e)
    behind l false e = (h.other l e).fourth

    go : (t : Bool) → ltb k count ≡ t
        → d ≡ cond t (mark_of (outcome_of a).random ((outcome_of a).value ⊕ (outcome_of b).value ⊕ (outcome_of c).value)) (cond (sign_place n count k) (sign_byte (is_minus a ⊕ is_minus b ⊕ is_minus c)) a)
    go true e = fourth_outcome a b c d (h.outcome (ltb-true k count e))
    go false e = behind (ltb-false k count e) (sign_place n count k) refl

-- ---- sheets

placed : (n k : ℕ) {l m : ℕ} {a b c d e f g h : List ℕ} → l ≡ m → a ≡ e → b ≡ f → c ≡ g → d ≡ h → PlaceAlike n m k (get_or e k 0) (get_or f k 0) (get_or g k 0) (get_or h k 0)
    → PlaceAlike n l k (get_or a k 0) (get_or b k 0) (get_or c k 0) (get_or d k 0)
placed n k pl pa pb pc pd x = rw (pl, pa, pb, pc, pd) x

bytes_length : (n : ℕ) (s : State) → length (record_of n s.outcomes s.rows) ≡ record_length n (length s.outcomes)
bytes_length n s = length-record n (map mark s.outcomes) s.rows ∙ ap (record_length n) (length-map s.outcomes mark)

module _ (text : List ℕ) (a b c d : Sheet) (m : SheetsAlike text a b c d) where
  abbrev n : ℕ
  n = m.circuit.qubits

  of_a : a.bytes ≡ record_of n m.end_a.outcomes m.end_a.rows
  of_a = ap (λ (s : Sheet). s.bytes) m.a_is

  of_b : b.bytes ≡ record_of n m.end_b.outcomes m.end_b.rows
  of_b = ap (λ (s : Sheet). s.bytes) m.b_is

  of_c : c.bytes ≡ record_of n m.end_c.outcomes m.end_c.rows
  of_c = ap (λ (s : Sheet). s.bytes) m.c_is

  of_d : d.bytes ≡ record_of n m.end_d.outcomes m.end_d.rows
  of_d = ap (λ (s : Sheet). s.bytes) m.d_is

  measured_is : a.tally.measured ≡ length m.end_a.outcomes
  measured_is = ap (λ (s : Sheet). s.tally.measured) m.a_is

  lengths_b : length b.bytes ≡ length a.bytes
  lengths_b = ap length of_b ∙ bytes_length n m.end_b ∙ ap (record_length n) (one_length m.ends.outcomes).0 ∙ sym (bytes_length n m.end_a) ∙ ap length (sym of_a)

  lengths_d : length d.bytes ≡ length a.bytes
  lengths_d = ap length of_d ∙ bytes_length n m.end_d ∙ ap (record_length n) (one_length m.ends.outcomes).2 ∙ sym (bytes_length n m.end_a) ∙ ap length (sym of_a)

  places : (k : ℕ) → PlaceAlike n a.tally.measured k (get_or a.bytes k 0) (get_or b.bytes k 0) (get_or c.bytes k 0) (get_or d.bytes k 0)
  places k = placed n k measured_is of_a of_b of_c of_d (place_alike n m.ends.outcomes m.ends.rows k)

  sheets_alike : RecordsAlike n a.tally.measured a.bytes b.bytes
  sheets_alike = record {
    lengths = lengths_b;
    outcomes = λ k l. same_kind _ _ _ _ ((places k).outcome l);
    signs = λ k l e. both_signs _ _ _ _ ((places k).sign l e);
    others = λ k l e. ((places k).other l e).second;
  }

  sheets_fourth : (k : ℕ) → get_or d.bytes k 0 ≡ byte_of_three n a.tally.measured k (get_or a.bytes k 0) (get_or b.bytes k 0) (get_or c.bytes k 0)
  sheets_fourth k = fourth_byte n a.tally.measured k _ _ _ _ (places k)

  numbers_b : numbers (ran_of (accepted b)) ≡ numbers (ran_of (accepted a))
  numbers_b = ap₂ (λ l t. 0 ∷ 0 ∷ l ∷ t.measured ∷ t.random ∷ t.taken ∷ []) lengths_b (ap (λ (s : Sheet). s.tally) m.b_is)

  numbers_d : numbers (ran_of (accepted d)) ≡ numbers (ran_of (accepted a))
  numbers_d = ap₂ (λ l t. 0 ∷ 0 ∷ l ∷ t.measured ∷ t.random ∷ t.taken ∷ []) lengths_d (ap (λ (s : Sheet). s.tally) m.d_is)

-- ---- calls

-- alike runs are accepted together
abbrev passed : Verdict Sheet → Bool
passed (accepted s) = true
passed (refused number place) = false

one_fate : (text : List ℕ) {p q r s : Verdict Sheet} → RunsAlike text p q r s → (passed q ≡ passed p) × (passed s ≡ passed p)
one_fate text refused_alike = (refl, refl)
one_fate text (accepted_alike k) = (refl, refl)

sheets_of : (text : List ℕ) {a b c d : Sheet} → RunsAlike text (accepted a) (accepted b) (accepted c) (accepted d) → SheetsAlike text a b c d
sheets_of text (accepted_alike k) = k

one_refusal : (text : List ℕ) {m p l q : ℕ} {r s : Verdict Sheet} → RunsAlike text (refused m p) (refused l q) r s → numbers (ran_of (refused l q)) ≡ numbers (ran_of (refused m p))
one_refusal text refused_alike = refl

-- what the promise says of a call, where its run is known and its buffer as long as another
module _ (text : List ℕ) (p : Call text) (room : ℕ) (l : length p.old ≡ room) (v : Verdict Sheet) (e : run_of text p.coins room ≡ v) where
  known : run_of text p.coins (length p.old) ≡ v
  known = ap (run_of text p.coins) l ∙ e

  answer_known : told_numbers p ≡ numbers (ran_of v)
  answer_known = ap numbers (p.keeps.answers ∙ ap ran_of known)

  rest_known : p.rest ≡ rest_of v p.coins
  rest_known = p.keeps.hands_back ∙ ap (λ w. rest_of w p.coins) known

  new_known : p.new ≡ buffer_after v p.old
  new_known = p.keeps.buffer ∙ ap (λ w. buffer_after w p.old) known

-- the front and the rest of the buffer of an accepted call
front_is : (bytes old new : List ℕ) (size : ℕ) → size ≡ length bytes → new ≡ over bytes old → take size new ≡ bytes
front_is bytes old new size z e = ap₂ take z e ∙ take_at bytes (drop (length bytes) old) (length bytes) refl

back_is : (bytes old new : List ℕ) (size : ℕ) → size ≡ length bytes → new ≡ over bytes old → drop size new ≡ drop size old
back_is bytes old new size z e = ap₂ drop z e ∙ drop_at bytes (drop (length bytes) old) (length bytes) refl ∙ ap (λ (k : ℕ). drop k old) (sym z)

-- first part: two coin lists of equal length, with record buffers of equal length
pub demand_3_two : (text : List ℕ) (p q : Call text) → length q.coins ≡ length p.coins → length q.old ≡ length p.old → (told_numbers q ≡ told_numbers p) × Leaves text p q
demand_3_two text p q l k =
    go (run_of text p.coins (length p.old)) (run_of text q.coins (length p.old)) refl refl (runs_alike text (length p.old) (two_alike p.coins q.coins l))
  where
    both : (s t : Sheet) → run_of text p.coins (length p.old) ≡ accepted s → run_of text q.coins (length p.old) ≡ accepted t → SheetsAlike text s t s t
        → (told_numbers q ≡ told_numbers p) × Leaves text p q
    both s t e f m =
        let ap-known = answer_known text p (length p.old) refl (accepted s) e in
        let aq-known = answer_known text q (length p.old) k (accepted t) f in
        let same : told_numbers q ≡ told_numbers p = aq-known ∙ numbers_b text s t s t m ∙ sym ap-known in
        let zp : size_told p ≡ length s.bytes = ap (λ a. get_or a 2 0) ap-known in
        let zq : size_told q ≡ length t.bytes = ap (λ a. get_or a 2 0) aq-known in
        let np = new_known text p (length p.old) refl (accepted s) e in
        let nq = new_known text q (length p.old) k (accepted t) f in
        let sizes : size_told p ≡ size_told q = ap (λ a. get_or a 2 0) (sym same) in
        let counts : measured_told p ≡ s.tally.measured = ap (λ a. get_or a 3 0) ap-known in
        let wp : written p ≡ s.bytes = front_is s.bytes p.old p.new (size_told p) zp np in
        let wq : written q ≡ t.bytes = front_is t.bytes q.old q.new (size_told q) zq nq in (
          same,
          two_records m.circuit m.meant (ap (λ a. get_or a 0 0) ap-known) (stated m.circuit.qubits counts wp wq (sheets_alike text s t s t m))
              (back_is s.bytes p.old p.new (size_told p) zp np) (back_is t.bytes q.old q.new (size_told p) (sizes ∙ zq) nq),
        )
      where
        stated : (n : ℕ) {c d : ℕ} {a b x y : List ℕ} → c ≡ d → a ≡ x → b ≡ y → RecordsAlike n d x y → RecordsAlike n c a b
        stated n e f g h = rw (e, f, g) h

    some_number : (number place : ℕ) → run_of text p.coins (length p.old) ≡ refused number place → number_told p ≡ 0 → ⊥
    some_number number place e z =
        let h = rw e at (run_numbered text p.coins (length p.old)) in
        omega (arith, h, z, ap (λ a. get_or a 0 0) (answer_known text p (length p.old) refl (refused number place) e))

    go : (v w : Verdict Sheet) → run_of text p.coins (length p.old) ≡ v → run_of text q.coins (length p.old) ≡ w → RunsAlike text v w v w → (told_numbers q ≡ told_numbers p) × Leaves text p q
    go (accepted s) (accepted t) e f m = both s t e f (sheets_of text m)
    go (accepted s) (refused number place) e f m = absurd (true≢false (sym (one_fate text m).0))
    go (refused number place) (accepted t) e f m = absurd (true≢false (one_fate text m).0)
    go (refused number place) (refused count line) e f m = (
      answer_known text q (length p.old) k (refused count line) f ∙ one_refusal text m ∙ sym (answer_known text p (length p.old) refl (refused number place) e),
      nothing (λ z. some_number number place e z) (new_known text p (length p.old) refl (refused number place) e) (new_known text q (length p.old) k (refused count line) f)
          (rest_known text p (length p.old) refl (refused number place) e) (rest_known text q (length p.old) k (refused count line) f),
    )

-- second part: three coin lists of equal length that are accepted, and the list made by exclusive-or of all three, with record buffers of equal length
pub demand_3_three : (text : List ℕ) (p q r s : Call text) → length q.coins ≡ length p.coins → length r.coins ≡ length p.coins → s.coins ≡ xor3 p.coins q.coins r.coins
    → length q.old ≡ length p.old → length r.old ≡ length p.old → length s.old ≡ length p.old
    → number_told p ≡ 0 → number_told q ≡ 0 → number_told r ≡ 0 → Fourth text p q r s
demand_3_three text p q r s lq lr es kq kr ks zp zq zr = go (run_of text s.coins (length p.old)) refl alike_four
  where
    cp : AcceptedCall p
    cp = accepted_call text p zp

    cq : AcceptedCall q
    cq = accepted_call text q zq

    cr : AcceptedCall r
    cr = accepted_call text r zr

    ep : run_of text p.coins (length p.old) ≡ accepted cp.sheet
    ep = cp.is

    eq : run_of text q.coins (length p.old) ≡ accepted cq.sheet
    eq = ap (run_of text q.coins) (sym kq) ∙ cq.is

    er : run_of text r.coins (length p.old) ≡ accepted cr.sheet
    er = ap (run_of text r.coins) (sym kr) ∙ cr.is

    alike_four : RunsAlike text (accepted cp.sheet) (accepted cq.sheet) (accepted cr.sheet) (run_of text s.coins (length p.old))
    alike_four = told ep eq er (ap (λ (l : List ℕ). run_of text l (length p.old)) es) (runs_alike text (length p.old) (three_alike p.coins q.coins r.coins lq lr))
      where
        told : {a b c d u v w x : Verdict Sheet} → a ≡ u → b ≡ v → c ≡ w → x ≡ d → RunsAlike text a b c d → RunsAlike text u v w x
        told f g h t m = rw (t, sym f, sym g, sym h) m

    go : (v : Verdict Sheet) → run_of text s.coins (length p.old) ≡ v → RunsAlike text (accepted cp.sheet) (accepted cq.sheet) (accepted cr.sheet) v → Fourth text p q r s
    go (refused number place) f m = absurd (true≢false (sym (one_fate text m).1))
    go (accepted d) f m =
        let k = sheets_of text m in
        let as-known = answer_known text s (length p.old) ks (accepted d) f in
        let same : told_numbers s ≡ told_numbers p = as-known ∙ numbers_d text cp.sheet cq.sheet cr.sheet d k ∙ sym cp.answer in
        let zs : size_told s ≡ length d.bytes = ap (λ a. get_or a 2 0) as-known in
        let ws : written s ≡ d.bytes = front_is d.bytes s.old s.new (size_told s) zs (new_known text s (length p.old) ks (accepted d) f) in
        let counts : measured_told p ≡ cp.sheet.tally.measured = ap (λ a. get_or a 3 0) cp.answer in
        record {
          circuit = k.circuit;
          meant = k.meant;
          answer = same;
          bytes = λ i l. stated k.circuit.qubits i counts (written_is text p cp) (written_is text q cq) (written_is text r cr) ws (sheets_fourth text cp.sheet cq.sheet cr.sheet d k i);
        }
      where
        stated : (n i : ℕ) {c e : ℕ} {a b x t u v y z : List ℕ} → c ≡ e → a ≡ u → b ≡ v → x ≡ y → t ≡ z
            → get_or z i 0 ≡ byte_of_three n e i (get_or u i 0) (get_or v i 0) (get_or y i 0) → get_or t i 0 ≡ byte_of_three n c i (get_or a i 0) (get_or b i 0) (get_or x i 0)
        stated n i e f g h j w = rw (e, f, g, h, j) w
