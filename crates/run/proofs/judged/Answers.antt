-- `run::judged` meets its contract. Assumes nothing.
use native.Mathlib.Omega.{arith}
use Rattle.run.proofs.Sheets.{may_size, judged_room, judged_coin, judged_refused}
use Rattle.run.proofs.judged.Goals as goal

pub record_size-requires : goal.record_size-requires
record_size-requires c = may_size _ _ _ _ _ c.in-Ok.ensures

pub returns-then-room-record_size : goal.returns-then-room-record_size
returns-then-room-record_size c = judged_room c.args.text.now _ _ _ _ c.in-Ok.ensures _ _ (omega (arith, c.if-room-record_size.true, c.record_size.ensures))

pub returns-else-room-record_size : goal.returns-else-room-record_size
returns-else-room-record_size c = judged_coin c.args.text.now _ _ _ _ c.in-Ok.ensures c.args.line c.args.room (omega (arith, c.if-room-record_size.false, c.record_size.ensures))

pub returns-in-Err : goal.returns-in-Err
returns-in-Err c = judged_refused c.args.text.now c.args.line c.args.room _ _ c.in-Err.ensures
