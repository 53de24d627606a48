use Rattle.writing.proofs.Parts.{record_put}
use Rattle.writing.proofs.put_record.Goals as goal

pub returns : goal.returns
returns c =
    let e = c.args in
    (c.record_size.ensures, record_put e.out.now _ _ _ _ e.marks.now e.words.now e.n c.requires.3 c.put.ensures c.put_group.ensures c.put_group-2.ensures c.put_trailer.ensures)
