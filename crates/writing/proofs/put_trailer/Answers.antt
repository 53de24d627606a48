use Rattle.writing.proofs.Parts.{trailer_put}
use Rattle.writing.proofs.put_trailer.Goals as goal

pub returns : goal.returns
returns c =
    let e = c.args in
    trailer_put e.out.now _ _ _ _ e.n e.count _ _ _ _ c.to_rows-rows.ensures c.requires.2 c.to_le_bytes.ensures c.to_le_bytes-2.ensures c.to_le_bytes-3.ensures
    c.put.ensures c.put-2.ensures c.put-3.ensures c.put-4.ensures
