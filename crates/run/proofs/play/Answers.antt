-- `run::play` meets its contract. Assumes nothing.
use mathlib.Core.Path.{refl}
use native.Mathlib.Omega.{arith}
use Rattle.std.proofs.lemmas.List.{get_or-replicate}
use Rattle.packing.specs.View.{word_count}
use Rattle.start_rows.proofs.Starting.{blank_held}
use Rattle.run.proofs.Sheets.{ended_size, ended_no_room, ended_sheeted, stuck_run}
use Rattle.run.proofs.play.Goals as goal

pub invariant_of-walk : goal.invariant_of-walk
invariant_of-walk c = record { few = c.requires.few_qubits; holds = blank_held c.args.n _ c.requires.few_qubits refl (λ k l. get_or-replicate word_count k 0 0 l) }

pub record_size-requires : goal.record_size-requires
record_size-requires c = ended_size _ _ _ _ _ _ _ c.requires c.in-Ok.ensures

pub returns-then-record-record_size : goal.returns-then-record-record_size
returns-then-record-record_size c = (ended_no_room _ _ _ _ _ _ _ c.requires c.in-Ok.ensures c.args.«record».now (omega (arith, c.if-record-record_size.true, c.record_size.ensures)), refl)

pub returns-else-record-record_size : goal.returns-else-record-record_size
returns-else-record-record_size c =
    ended_sheeted _ _ _ _ _ _ _ c.requires c.in-Ok.ensures c.args.«record».now _ _ (omega (arith, c.if-record-record_size.false, c.record_size.ensures)) c.put_record-size.ensures.0 c.put_record-size.ensures.1

pub returns-in-Err : goal.returns-in-Err
returns-in-Err c =
    (stuck_run c.args.text.now c.args.coins.now c.args.n c.args.body _ _ _ _ c.requires c.in-Err.ensures c.judged.ensures, refl)
