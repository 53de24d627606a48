-- `columns::one` meets its contract. Assumes nothing.
use Rattle.columns.proofs.Letters.{one_gate}
use Rattle.columns.proofs.Steps.{turned_by}
use Rattle.columns.proofs.one.Goals as goal

pub returns : goal.returns
returns b c = (
  c.into-gate.result,
  c.into-gate.ensures,
  one_gate c.into-gate.result c.args.a c.requires _ _ _ _ c.eq-h.ensures c.eq-s.ensures c.eq-x.ensures c.eq-y.ensures _ _ _ _ _ _ c.select_unpredictable-pa.ensures c.select_unpredictable-pb.ensures
      c.select_unpredictable-ys.ensures c.select_unpredictable-fx.ensures c.select_unpredictable-fz.ensures c.select_unpredictable-added.ensures
      (turned_by _ c.turn.ensures c.one_turns-turned.ensures) c.shuffle.ensures,
)
