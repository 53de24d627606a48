-- `pairing::unpaired` meets its contract. Assumes nothing.
use Rattle.pairing.proofs.Judged.{judged, spelled_against}
use Rattle.pairing.proofs.unpaired.Goals as goal

pub returns : goal.returns
returns c =
    let r = c.args.rows.now in
    let w = c.args.w.now in
    judged r.qubits w r.most c.requires.only _ (spelled_against r.bytes.now r.qubits w r.most c.requires _ c.against-found.ensures) _ c.first_wrong.ensures
