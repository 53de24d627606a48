-- `archive::copy` meets its contract: the record that was found is written again. Assumes nothing.
use Rattle.std.proofs.Common.{rules, arith}
use Rattle.answers.proofs.Answered.{has_no_room, has_written}
use Rattle.archive.proofs.Copying.{part_length, copied, copied_length}
use Rattle.archive.proofs.copy.Goals as goal

pub returns-then-out-record_size : goal.returns-then-out-record_size
returns-then-out-record_size c =
    let s = c.args.bytes.now in
    let l = c.in_ok-start.field-0 in
    let w = c.read.new.words in
    has_no_room _ c.args.out.now _ (copied s w l (search rules) (search rules))
    (omega (arith, copied_length s w l (search rules) (search rules), c.record_size.ensures, c.if-out-record_size.true))

pub returns : goal.returns
returns c =
    let s = c.args.bytes.now in
    let l = c.in_ok-start.field-0 in
    let w = c.read.new.words in
    let p = c.put_record-size.ensures in
    let k = copied_length s w l (search rules) (search rules) in
    has_written _ c.args.out.now _ _ _ (copied s w l (search rules) (search rules))
    (omega (arith, k, c.record_size.ensures, c.if-out-record_size.false)) (omega (arith, k, part_length s w l (search rules) (search rules), p.0)) p.1
