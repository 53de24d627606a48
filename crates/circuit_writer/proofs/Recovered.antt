-- What is read was written: a text that means a circuit is the text of that circuit. Assumes nothing.
use mathlib.Core.Bool.{true}
use mathlib.Core.List.{List, [], ◌∷◌, ◌++◌, append_assoc}
use mathlib.Core.Logic.{◌⊎◌, inl, inr, ⊎_elim}
use Rattle.std.specs.Prelude.{Option, None, Some}
use mathlib.Core.Path.{◌≡◌, refl, sym, ◌∙◌, ap}
use Prim.Native.Nat.{ℕ, zero, suc, ◌<◌}
use native.Mathlib.Omega.{arith}
use Rattle.limits.specs.Limits.{most_operations}
use Rattle.answers.specs.Verdict.{accepted}
use Rattle.clifford.specs.declared.One.TheVariants.{H, S, PauliX, PauliY, PauliZ}
use Rattle.clifford.specs.declared.Two.TheVariants.{Cx, Cz}
use Rattle.clifford.specs.declared.Gate.TheVariants.{One as one, Two as two}
use Rattle.clifford.specs.declared.After.TheVariants.{Keep, Reset}
use Rattle.clifford.specs.declared.Op.{Op}
use Rattle.clifford.specs.declared.Op.TheVariants.{Gate as apply, Measure as measure}
use Rattle.circuit.specs.Lines.{Found, found, malformed, then_read, strip, closed_by, number, with_one, with_two, Name, qubit, named, names, op_line}
use Rattle.circuit.specs.Text.{Circuit, ends, operations, header, meaning}
use Rattle.circuit.specs.Parts.Reading.{qubits}
use Rattle.circuit.proofs.Positions.{stripped}
use Rattle.circuit.proofs.Names.{or_else, spaced_qubits}
use Rattle.circuit.proofs.Readings.{same_found, closing, spacing}
use Rattle.circuit.proofs.Walk.{ends_or_not, next_line, no_more}
use Rattle.checking.proofs.Meant.{parts}
use Rattle.lines.specs.Decimal.{decimal}
use Rattle.circuit_writer.specs.Writing.{name_text, qubit_text, qubits_text, line_text, header_text, lines_text, circuit_text}
use Rattle.circuit_writer.specs.Parts.Small.{Small}
use Rattle.circuit_writer.proofs.Numerals.{number_read}

-- a reading that goes on has gone well before
pub record Before {A B : Type 0} (r : Found A) (f : A → List ℕ → Found B) (b : B) (rest : List ℕ) : Type 0 where
  pub value : A
  pub behind : List ℕ
  pub first : r ≡ found value behind
  pub later : f value behind ≡ found b rest

before : {A B : Type 0} (r : Found A) (f : A → List ℕ → Found B) (b : B) (rest : List ℕ) → then_read r f ≡ found b rest → Before r f b rest
before (found a t) f b rest e = record { value = a; behind = t; first = refl; later = e }
before malformed f b rest e = absurd (let k : ◌≡◌ {A = ℕ} 0 1 = cc in omega arith)

pub record Closed {A : Type 0} (a : A) (t : List ℕ) (b : A) (rest : List ℕ) : Type 0 where
  pub same : b ≡ a
  pub text : t ≡ 10 ∷ rest

closed_if : {A : Type 0} (a : A) (t : List ℕ) (b : A) (rest : List ℕ) (o : Option (List ℕ)) → strip (10 ∷ []) t ≡ o → closing a o ≡ found b rest → Closed a t b rest
closed_if a t b rest (Some u) q e =
    let w = same_found a b u rest e in
    record { same = w.0; text = stripped (10 ∷ []) t u q ∙ ap (λ (l : List ℕ). 10 ∷ l) (sym w.1) }
closed_if a t b rest None q e = absurd (let k : ◌≡◌ {A = ℕ} 0 1 = cc in omega arith)

closed_read : {A : Type 0} (a : A) (t : List ℕ) (b : A) (rest : List ℕ) → closed_by (10 ∷ []) a t ≡ found b rest → Closed a t b rest
closed_read a t b rest e = closed_if a t b rest (strip (10 ∷ []) t) refl e

-- a qubit
pub record Qubit (s : List ℕ) (a : ℕ) (rest : List ℕ) : Type 0 where
  pub text : s ≡ qubit_text a ++ rest
  pub small : a < 1000

qubit_if : (s : List ℕ) (a : ℕ) (rest : List ℕ) (o : Option (List ℕ)) → strip (32 ∷ []) s ≡ o → spacing o ≡ found a rest → Qubit s a rest
qubit_if s a rest (Some u) q e =
    let w = number_read u a rest e in
    record { text = stripped (32 ∷ []) s u q ∙ ap (λ (l : List ℕ). 32 ∷ l) w.text; small = w.small }
qubit_if s a rest None q e = absurd (let k : ◌≡◌ {A = ℕ} 0 1 = cc in omega arith)

qubit_read : (s : List ℕ) (a : ℕ) (rest : List ℕ) → qubit s ≡ found a rest → Qubit s a rest
qubit_read s a rest e = qubit_if s a rest (strip (32 ∷ []) s) refl e

-- an operation without its end byte
pub record Operation (s : List ℕ) (op : Op) (rest : List ℕ) : Type 0 where
  pub text : s ≡ (name_text op ++ qubits_text op) ++ rest
  pub small : Small op

composed :
    (s bs u q v rest : List ℕ) (op : Op)
    → s ≡ bs ++ u → u ≡ q ++ v → rest ≡ v → name_text op ≡ bs → qubits_text op ≡ q → s ≡ (name_text op ++ qubits_text op) ++ rest
composed s bs u q v rest op a b c n k = rw (n, k, c, a, b) (sym (append_assoc bs q v))

small_as : (op o : Op) → op ≡ o → Small o → Small op
small_as op o e h = rw e h

module _ (bs s u : List ℕ) (named-so : s ≡ bs ++ u) (op : Op) (rest : List ℕ) where
  one_operation :
      (f : ℕ → Op) → ((a : ℕ) → name_text (f a) ≡ bs) → ((a : ℕ) → qubits_text (f a) ≡ qubit_text a) → ((a : ℕ) → a < 1000 → Small (f a))
      → qubits (with_one f) u ≡ found op rest → Operation s op rest
  one_operation f n q k e =
      let w = before (qubit u) (λ a r. found (f a) r) op rest e in
      let z = same_found (f w.value) op w.behind rest w.later in
      let y = qubit_read u w.value w.behind w.first in
      record {
        text =
            composed s bs u (qubit_text w.value) w.behind rest op named-so y.text z.1 (ap name_text z.0 ∙ n w.value)
            (ap qubits_text z.0 ∙ q w.value);
        small = small_as op (f w.value) z.0 (k w.value y.small);
      }

  two_operation :
      (f : ℕ → ℕ → Op) → ((a b : ℕ) → name_text (f a b) ≡ bs) → ((a b : ℕ) → qubits_text (f a b) ≡ qubit_text a ++ qubit_text b)
      → ((a b : ℕ) → a < 1000 → b < 1000 → Small (f a b)) → qubits (with_two f) u ≡ found op rest → Operation s op rest
  two_operation f n q k e =
      let w = before (qubit u) (λ a r. then_read (qubit r) (λ b m. found (f a b) m)) op rest e in
      let v = before (qubit w.behind) (λ b m. found (f w.value b) m) op rest w.later in
      let z = same_found (f w.value v.value) op v.behind rest v.later in
      let y = qubit_read u w.value w.behind w.first in
      let x = qubit_read w.behind v.value v.behind v.first in
      record {
        text =
            composed s bs u (qubit_text w.value ++ qubit_text v.value) v.behind rest op named-so
            (y.text ∙ ap (λ (l : List ℕ). qubit_text w.value ++ l) x.text ∙ sym (append_assoc (qubit_text w.value) (qubit_text v.value) v.behind))
            z.1
            (ap name_text z.0 ∙ n w.value v.value)
            (ap qubits_text z.0 ∙ q w.value v.value);
        small = small_as op (f w.value v.value) z.0 (k w.value v.value y.small x.small);
      }

-- one of the names stands at the front
pub record Stood (e : Name) (s : List ℕ) (op : Op) (rest : List ℕ) : Type 0 where
  pub behind : List ℕ
  pub text : s ≡ e.spelled ++ behind
  pub reads : qubits e.form behind ≡ found op rest

abbrev Among : List Name → List ℕ → Op → List ℕ → Type 0
Among [] s op rest = ⊥
Among (e ∷ es) s op rest = Stood e s op rest ⊎ Among es s op rest

among_if :
    (e : Name) (es : List Name) (s : List ℕ) (op : Op) (rest : List ℕ) (o : Option (List ℕ)) → strip (e.spelled ++ 32 ∷ []) s ≡ o
    → (named es s ≡ found op rest → Among es s op rest)
    → or_else e.form o (named es s) ≡ found op rest → Among (e ∷ es) s op rest
among_if e es s op rest (Some u) q go h =
    inl (record {
      behind = 32 ∷ u;
      text = stripped (e.spelled ++ 32 ∷ []) s u q ∙ append_assoc e.spelled (32 ∷ []) u;
      reads = sym (spaced_qubits e.form (32 ∷ u)) ∙ h;
    })
among_if e es s op rest None q go h = inr (go h)

among : (es : List Name) (s : List ℕ) (op : Op) (rest : List ℕ) → named es s ≡ found op rest → Among es s op rest
among [] s op rest h = absurd (let k : ◌≡◌ {A = ℕ} 0 1 = cc in omega arith)
among (e ∷ es) s op rest h = among_if e es s op rest (strip (e.spelled ++ 32 ∷ []) s) refl (among es s op rest) h

operation_read : (s : List ℕ) (op : Op) (rest : List ℕ) → Among names s op rest → Operation s op rest
operation_read s op rest =
    ⊎_elim (λ w. one_operation (72 ∷ []) s w.behind w.text op rest (λ a. apply (one H a)) (λ a. refl) (λ a. refl) (λ a h. h) w.reads)
    (⊎_elim (λ w. one_operation (83 ∷ []) s w.behind w.text op rest (λ a. apply (one S a)) (λ a. refl) (λ a. refl) (λ a h. h) w.reads)
    (⊎_elim (λ w. one_operation (88 ∷ []) s w.behind w.text op rest (λ a. apply (one PauliX a)) (λ a. refl) (λ a. refl) (λ a h. h) w.reads)
    (⊎_elim (λ w. one_operation (89 ∷ []) s w.behind w.text op rest (λ a. apply (one PauliY a)) (λ a. refl) (λ a. refl) (λ a h. h) w.reads)
    (⊎_elim (λ w. one_operation (90 ∷ []) s w.behind w.text op rest (λ a. apply (one PauliZ a)) (λ a. refl) (λ a. refl) (λ a h. h) w.reads)
    (⊎_elim (λ w. two_operation (67 ∷ 88 ∷ []) s w.behind w.text op rest (λ a b. apply (two Cx a b)) (λ a b. refl) (λ a b. refl) (λ a b h k. (h, k)) w.reads)
    (⊎_elim (λ w. two_operation (67 ∷ 90 ∷ []) s w.behind w.text op rest (λ a b. apply (two Cz a b)) (λ a b. refl) (λ a b. refl) (λ a b h k. (h, k)) w.reads)
    (⊎_elim (λ w. one_operation (77 ∷ []) s w.behind w.text op rest (measure Keep) (λ a. refl) (λ a. refl) (λ a h. h) w.reads)
    (⊎_elim (λ w. one_operation (77 ∷ 82 ∷ []) s w.behind w.text op rest (measure Reset) (λ a. refl) (λ a. refl) (λ a h. h) w.reads) (λ z. absurd z)))))))))

-- a line
pub record LineRead (s : List ℕ) (op : Op) (rest : List ℕ) : Type 0 where
  pub text : s ≡ line_text op ++ rest
  pub small : Small op

pub line_read : (s : List ℕ) (op : Op) (rest : List ℕ) → op_line s ≡ found op rest → LineRead s op rest
line_read s op rest e =
    let w = before (named names s) (closed_by (10 ∷ [])) op rest e in
    let z = closed_read w.value w.behind op rest w.later in
    let r : named names s ≡ found op (10 ∷ rest) = w.first ∙ (λ i. found (sym z.same i) (z.text i)) in
    let y = operation_read s op (10 ∷ rest) (among names s op (10 ∷ rest) r) in
    record { text = y.text ∙ sym (append_assoc (name_text op ++ qubits_text op) (10 ∷ []) rest); small = y.small }

-- the lines
ended : (s : List ℕ) → ends s ≡ true → s ≡ []
ended [] e = refl
ended (c ∷ s) e = cc

pub lines_read : (n room line : ℕ) (s : List ℕ) (ops : List Op) → operations n room line s ≡ accepted ops → s ≡ lines_text ops
lines_read n zero line s ops a =
    ⊎_elim {C = s ≡ lines_text ops} (λ h. ended s h ∙ ap lines_text (sym (no_more n 0 line s ops a h)))
    (λ h. absurd (let w = next_line n 0 line s ops a h in omega (arith, w.room_is)))
    (ends_or_not s (ends s) refl)
lines_read n (suc room) line s ops a =
    ⊎_elim {C = s ≡ lines_text ops} (λ h. ended s h ∙ ap lines_text (sym (no_more n (suc room) line s ops a h)))
    (λ h.
    let w = next_line n (suc room) line s ops a h in
    let r : w.left ≡ room = omega (arith, w.room_is) in
    (line_read s w.op w.rest w.reads).text
    ∙ ap (λ (l : List ℕ). line_text w.op ++ l) (lines_read n room (suc line) w.rest w.more (rw r at w.goes_on))
    ∙ ap lines_text (sym w.ops_is))
    (ends_or_not s (ends s) refl)

-- line 1
abbrev heading : Option (List ℕ) → Found ℕ
heading o = elim o [ Some rest ↦ then_read (number rest) (closed_by (10 ∷ [])) | None ↦ malformed ]

header_if : (s : List ℕ) (n : ℕ) (rest : List ℕ) (o : Option (List ℕ)) → strip (81 ∷ 32 ∷ []) s ≡ o → heading o ≡ found n rest → s ≡ header_text n ++ rest
header_if s n rest (Some u) q e =
    let w = before (number u) (closed_by (10 ∷ [])) n rest e in
    let z = closed_read w.value w.behind n rest w.later in
    let y = number_read u n (10 ∷ rest) (w.first ∙ (λ i. found (sym z.same i) (z.text i))) in
    stripped (81 ∷ 32 ∷ []) s u q ∙ ap (λ (l : List ℕ). 81 ∷ 32 ∷ l) (y.text ∙ sym (append_assoc (decimal n) (10 ∷ []) rest))
header_if s n rest None q e = absurd (let k : ◌≡◌ {A = ℕ} 0 1 = cc in omega arith)

pub header_read : (s : List ℕ) (n : ℕ) (rest : List ℕ) → header s ≡ found n rest → s ≡ header_text n ++ rest
header_read s n rest e = header_if s n rest (strip (81 ∷ 32 ∷ []) s) refl e

-- a text is accepted only where it is the text of its circuit
pub text_recovered : (s : List ℕ) (c : Circuit) → meaning s ≡ accepted c → s ≡ circuit_text c
text_recovered s c a =
    let w = parts s c a in
    header_read s c.qubits w.rest w.header_is
    ∙ ap (λ (l : List ℕ). header_text c.qubits ++ l) (lines_read c.qubits most_operations 2 w.rest c.ops w.lines)

-- two texts of one meaning are one text
pub one_text : (s t : List ℕ) (c : Circuit) → meaning s ≡ accepted c → meaning t ≡ accepted c → s ≡ t
one_text s t c a b = text_recovered s c a ∙ sym (text_recovered t c b)
