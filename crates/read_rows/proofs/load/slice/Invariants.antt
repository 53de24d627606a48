use mathlib.Core.Path.{◌≡◌}
use lib.ListN.{get_or}
use Rattle.pauli.specs.Letters.{x, z}
use Rattle.pauli.specs.Texts.{letter_of}
use Rattle.read_rows.specs.Parts.Loading.{Turned}
use Rattle.read_rows.proofs.load.slice.Given as goal

abbrev pub invariant-loop-j : goal.invariant-loop-j
invariant-loop-j l = record {
  xs : Turned (λ k. x (letter_of (get_or l.letters k 0))) l.j l.bit l.from l.initial.p.x l.p.x;
  zs : Turned (λ k. z (letter_of (get_or l.letters k 0))) l.j l.bit l.from l.initial.p.z l.p.z;
  signs : l.p.signs ≡ l.initial.p.signs;
}
