-- `weighing::pace` meets its contract. Assumes nothing.
use borrow.Author.Rules.{rules}
use mathlib.Core.Path.{◌≡◌, refl, sym, subst}
use mathlib.Core.Bool.{Bool, true, false}
use Prim.Native.Nat.{◌+◌, ◌≤◌}
use native.Mathlib.Omega.{arith}
use Rattle.std.specs.Prelude.{Some}
use Rattle.clifford.specs.declared.Gate.TheVariants.{One as one, Two as two}
use Rattle.columns.proofs.Gates.{as_given}
use Rattle.packing.specs.declared.Packed.{Packed}
use Rattle.tally.specs.Tally.{one_if}
use Rattle.walking.specs.Parts.Walk.{following}
use Rattle.walking.proofs.Views.{gate_holds}
use Rattle.weighing.specs.declared.Passed.{Passed}
use Rattle.weighing.specs.Parts.Heard.{PacedAs}
use Rattle.weighing.proofs.Hearing.{paced_measure, paced_against, paced_gate}
use Rattle.weighing.proofs.pace.Goals as goal
use Rattle.weighing.proofs.pace.Goals.{in-One, in-Two, in-Measure+in_ok-random-in-Measure}

one_few : (b : Bool) → one_if b ≤ 1
one_few true = omega arith
one_few false = omega arith

pub returns-in_err-op : goal.returns-in_err-op
returns-in_err-op c = rw c.from_residual.ensures (record { same = refl; is = λ h room line ops e. absurd (c.in_err-op.ensures h room line ops e) })

pub invariant_of-rows : goal.invariant_of-rows
invariant_of-rows c =
    let r = c.args.rows.now in
    record { few = r.few; holds = gate_holds c.args.text.now c.args.at r.qubits (one c.in-One.gate c.in-One.a) c.in_ok-op.size r.words _ r.few (rw c.in-One.is at c.in_ok-op.ensures) (as_given c.in-One.gate c.in-One.a _ _ c.one.ensures) r.holds }

pub invariant_of-rows-in-Two : goal.invariant_of-rows-in-Two
invariant_of-rows-in-Two c =
    let r = c.args.rows.now in
    record { few = r.few; holds = gate_holds c.args.text.now c.args.at r.qubits (two c.in-Two.gate c.in-Two.a c.in-Two.b) c.in_ok-op.size r.words _ r.few (rw c.in-Two.is at c.in_ok-op.ensures) c.two.ensures r.holds }

pub returns-in_err-random-in-Measure : goal.returns-in_err-random-in-Measure
returns-in_err-random-in-Measure c =
    let r = c.args.rows.now in
    rw c.from_residual-in_err-random-in-Measure.ensures (record {
      same = c.hear.ensures.same;
      is = paced_against c.args.text.now c.args.at r.qubits c.args.stated.now r.words c.args.passed c.in_ok-op.size (following c.resets.result) c.in-Measure.a (rw (c.in-Measure.is, sym c.resets.ensures) at c.in_ok-op.ensures) c.in_err-random-in-Measure.ensures.is;
    })

pub returns : goal.returns
returns c =
    let r = c.args.rows.now in
    let Done : Packed → Passed → Type 0 = λ r' p'. PacedAs c.args.text.now c.args.at c.args.stated.now r c.args.passed (Some (c.args.at + c.in_ok-op.size, p')) r' in
    elim c.match-op.branch [
      | in-One v ↦
          subst (λ r'. Done r' c.match-op.more) (sym v.rows-is) (subst (Done _) (sym v.more-is) (record {
            same = refl;
            is = paced_gate c.args.text.now c.args.at r.qubits c.args.stated.now r.words c.args.passed c.in_ok-op.size (one v.in-One.gate v.in-One.a) _ r.few r.holds (rw v.in-One.is at c.in_ok-op.ensures) (as_given v.in-One.gate v.in-One.a _ _ v.one.ensures);
          }))
      | in-Two v ↦
          subst (λ r'. Done r' c.match-op.more) (sym v.rows-is) (subst (Done _) (sym v.more-is) (record {
            same = refl;
            is = paced_gate c.args.text.now c.args.at r.qubits c.args.stated.now r.words c.args.passed c.in_ok-op.size (two v.in-Two.gate v.in-Two.a v.in-Two.b) _ r.few r.holds (rw v.in-Two.is at c.in_ok-op.ensures) v.two.ensures;
          }))
      | in-Measure+in_ok-random-in-Measure v ↦
          let b = v.in_ok-random-in-Measure.random in
          let e : c.args.passed.random + v.from.result ≡ c.args.passed.random + one_if b = search rules in
          subst (λ r'. Done r' c.match-op.more) (sym v.rows-is) (subst (Done _) (sym v.more-is) (record {
            same = v.hear.ensures.same;
            is =
                paced_measure c.args.text.now c.args.at r.qubits c.args.stated.now r.words c.args.passed c.in_ok-op.size (following v.resets.result) v.in-Measure.a (rw (v.in-Measure.is, sym v.resets.ensures) at c.in_ok-op.ensures) (one_if b) _ _ (one_few b) e v.in_ok-random-in-Measure.ensures.is;
          }))
    ]
