use mathlib.Core.Path.{◌≡◌, subst}
use native.Mathlib.Omega.{arith}
use Rattle.writing.specs.Parts.Planes.{Filled}
use Rattle.writing.proofs.Bytes.{plane_made}
use Rattle.writing.proofs.put_plane.Goals as goal

pub returns : goal.returns
returns c =
    let e = c.args in
    let j : c.loop-j.j ≡ e.n = omega arith in
    plane_made e.words.now e.slot e.n c.loop-j.plane (subst (λ k. Filled e.words.now e.slot k c.loop-j.plane) j c.loop-j.invariant)
