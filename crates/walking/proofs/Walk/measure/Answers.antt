-- `walking::Walk::measure` meets its contract. Assumes nothing.
use Rattle.walking.specs.Parts.Walk.{following}
use Rattle.walking.proofs.Views.{went_shot}
use Rattle.walking.proofs.Walk.measure.Goals as goal

pub returns : goal.returns
returns c =
    let w = c.args.self.now in
    let o = c.in_ok-outcome.outcome in
    let s = c.in_ok-outcome.ensures.is in (
      c.shoot.ensures.same,
      λ line state v. went_shot w.rows.qubits c.args.coins.now state w.rows.words w.marks w.tally v line (following c.args.reset) c.args.a o.random o.value _ _ _
          (rw c.shoot.ensures.same at c.shoot.new.rows.holds) s c.mark.ensures c.step.ensures c.requires.0.measured,
    )
