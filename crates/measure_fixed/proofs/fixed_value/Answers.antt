-- `measure_fixed::fixed_value` meets its contract. Assumes nothing.
use mathlib.Core.Path.{sym, ap, ◌∙◌}
use Prim.Native.Nat.{ℕ, ◌*◌}
use native.Mathlib.Omega.{arith}
use lib.ListN.{get_or}
use Rattle.limits.specs.Limits.{most_qubits}
use Rattle.pauli.specs.Rows.{minus_sign}
use Rattle.measure_fixed.specs.Parts.Column.{pair, all_powers}
use Rattle.measure_fixed.proofs.Counts.{minus_power}
use Rattle.measure_fixed.proofs.Tied.{tied, fixed_none, fixed_one}
use Rattle.measure_fixed.proofs.fixed_value.Goals as goal

pub returns-then-sel-eq0 : goal.returns-then-sel-eq0
returns-then-sel-eq0 c =
    let r = c.args.rows.now in
    fixed_none r.qubits c.args.a r.words r.holds r.few c.requires c.if-sel-eq0.true c.if-tel-eq0.true

pub returns-in-Some : goal.returns-in-Some
returns-in-Some c =
    let r = c.args.rows.now in
    fixed_one r.qubits c.args.a r.words r.holds r.few c.requires 0 (omega arith) c.if-tel-eq0.true c.in-Some.minus c.in-Some.ensures

pub returns-then-tel-eq0 : goal.returns-then-tel-eq0
returns-then-tel-eq0 c =
    let r = c.args.rows.now in
    sym (minus_power c.powers.result)
    ∙ ap minus_sign (c.powers.ensures ∙ ap (λ (t : ℕ). all_powers most_qubits r.qubits r.words (pair (get_or r.words (8 * c.args.a) 0) t)) (sym c.if-tel-eq0.true) ∙ sym (tied r.qubits c.args.a r.words r.holds r.few c.requires))

pub returns-in-Some-lone_sign : goal.returns-in-Some-lone_sign
returns-in-Some-lone_sign c =
    let r = c.args.rows.now in
    fixed_one r.qubits c.args.a r.words r.holds r.few c.requires 1 (omega arith) c.if-sel-eq0-2.true c.in-Some-lone_sign.minus c.in-Some-lone_sign.ensures

pub returns : goal.returns
returns c =
    let r = c.args.rows.now in
    sym (minus_power c.powers-2.result) ∙ ap minus_sign (c.powers-2.ensures ∙ sym (tied r.qubits c.args.a r.words r.holds r.few c.requires))
