-- `quick_lines::usual::two_at` meets its contract. Assumes nothing.
use mathlib.Core.Path.{sym, ap}
use Prim.Native.Nat.{ℕ, ◌+◌}
use Rattle.quick_lines.proofs.Pairs.{usual_two}
use Rattle.quick_lines.proofs.usual.two_at.Goals as goal

pub returns : goal.returns
returns c =
    let q = c.in_ok-a.ensures in
    let r = c.in_ok-b.ensures in
    rw c.width.ensures (usual_two _ _ _ c.requires.0 _ _ _ c.requires.1 (sym c.in_ok-gate.ensures) (3 + c.width-front.result) (ap (λ (w : ℕ). 3 + w) c.width-front.ensures) q.1 r.1 q.0 r.0 c.if-a-b.false)
