use mathlib.Core.Path.{◌≡◌}
use Rattle.walking.proofs.Walking.{Walking}
use Rattle.walking.proofs.Walk.walk.Given as goal

abbrev pub invariant-loop-line : goal.invariant-loop-line
invariant-loop-line l =
    (l.self.rows.qubits ≡ l.fn.self.rows.qubits) × Walking l.text l.body l.self.rows.qubits l.coins l.self.rows.words l.self.marks l.self.tally l.at l.line
