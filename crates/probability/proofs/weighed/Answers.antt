-- `probability::weighed` meets its contract. Assumes nothing.
use Rattle.probability.proofs.Telling.{retold}
use Rattle.probability.proofs.FromWalk.{all_judged, part_judged}
use Rattle.probability.proofs.weighed.Goals as goal

pub invariant_of-rows : goal.invariant_of-rows
invariant_of-rows c = record { few = c.requires.few_qubits; holds = c.start_words.ensures.0 }

pub returns-in-Ok : goal.returns-in-Ok
returns-in-Ok c =
    retold c.judged.result _ _ (all_judged c.args.text.now c.args.stated.now c.args.n c.args.body c.requires c.in-Ok.passed c.in-Ok.ensures) c.judged.ensures

pub returns-in-Err : goal.returns-in-Err
returns-in-Err c =
    let s = c.in-Err.stopped in
    retold c.halted.result _ _ (part_judged c.args.text.now c.args.stated.now c.args.n c.args.body c.requires s.at s.done s.passed c.in-Err.ensures) c.halted.ensures
