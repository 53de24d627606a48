-- `walking::Walk::turn` meets its contract. Assumes nothing.
use mathlib.Core.Path.{◌≡◌, refl, sym, subst}
use native.Mathlib.Omega.{arith}
use Prim.Native.Nat.{◌+◌}
use Rattle.std.specs.Prelude.{Some}
use Rattle.clifford.specs.declared.Gate.TheVariants.{One as one, Two as two}
use Rattle.columns.proofs.Gates.{as_given}
use Rattle.walking.specs.declared.Walk.{Walk}
use Rattle.walking.specs.Parts.Walk.{following, Goes}
use Rattle.walking.proofs.Views.{gate_step, gate_holds, measure_step}
use Rattle.walking.proofs.Walk.turn.Goals as goal
use Rattle.walking.proofs.Walk.turn.Goals.{in-One, in-Two, in-Measure+in_ok-ok_or-in-Measure}

pub invariant_of-self : goal.invariant_of-self
invariant_of-self c =
    let r = c.args.self.now.rows in
    record { few = r.few; holds = gate_holds c.args.text.now c.args.at r.qubits (one c.in-One.gate c.in-One.a) c.in-Some.size r.words _ r.few (rw c.in-One.is at c.in-Some.ensures) (as_given c.in-One.gate c.in-One.a _ _ c.one.ensures) r.holds }

pub invariant_of-self-in-Two : goal.invariant_of-self-in-Two
invariant_of-self-in-Two c =
    let r = c.args.self.now.rows in
    record { few = r.few; holds = gate_holds c.args.text.now c.args.at r.qubits (two c.in-Two.gate c.in-Two.a c.in-Two.b) c.in-Some.size r.words _ r.few (rw c.in-Two.is at c.in-Some.ensures) c.two.ensures r.holds }

pub returns : goal.returns
returns c =
    let w = c.args.self.now in
    let r = w.rows in
    let Done : Walk → Type 0 = λ s. (s.rows.qubits ≡ r.qubits) × Goes c.args.text.now c.args.at r.qubits c.args.coins.now r.words w.marks w.tally (c.args.at + c.in-Some.size) s.rows.words s.marks s.tally in
    elim c.match-op.branch [
      | in-One v ↦
          subst Done (sym v.self-is) (refl, gate_step c.args.text.now c.args.at r.qubits (one v.in-One.gate v.in-One.a) c.in-Some.size r.words _ r.few (rw v.in-One.is at c.in-Some.ensures) (as_given v.in-One.gate v.in-One.a _ _ v.one.ensures) c.args.coins.now w.marks w.tally)
      | in-Two v ↦
          subst Done (sym v.self-is) (refl, gate_step c.args.text.now c.args.at r.qubits (two v.in-Two.gate v.in-Two.a v.in-Two.b) c.in-Some.size r.words _ r.few (rw v.in-Two.is at c.in-Some.ensures) v.two.ensures c.args.coins.now w.marks w.tally)
      | in-Measure+in_ok-ok_or-in-Measure v ↦
          let e : v.measure.result ≡ Some tt = grind (arith) in
          let m = rw e at v.measure.ensures in
          subst Done (sym v.self-is) (m.0, measure_step c.args.text.now c.args.at r.qubits (following v.resets.result) v.in-Measure.a c.in-Some.size r.words w.marks w.tally (rw (v.in-Measure.is, sym v.resets.ensures) at c.in-Some.ensures) c.args.coins.now _ _ _ m.1)
    ]
