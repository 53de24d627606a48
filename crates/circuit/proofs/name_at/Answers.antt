-- `circuit::name_at` meets its contract. Assumes nothing.
use mathlib.Core.Path.{refl, sym, ◌∙◌}
use native.Mathlib.Omega.{arith}
use Rattle.std.proofs.lemmas.List.{get_or_read}
use Rattle.clifford.specs.declared.After.TheVariants.{Reset}
use Rattle.clifford.specs.declared.Op.TheVariants.{Measure as measure}
use Rattle.circuit.specs.Lines.{with_one}
use Rattle.circuit.proofs.Names.{spelled_two}
use Rattle.circuit.proofs.name_at.Goals as goal

pub returns-in-77 : goal.returns-in-77
returns-in-77 c =
    let a = c.args in
    let m = get_or_read a.s.now a.at _ (omega (arith, c.if-byte_at.ensures.0)) c.in_ok-get.ensures.lookup.1 0 in
    spelled_two a.s.now a.at (with_one (measure Reset)) 77 82 (omega (arith, c.if-byte_at.ensures.0)) (sym m ∙ c.in-77.is) c.if-byte_at.ensures (λ u. refl)
