-- `columns::two` meets its contract. Assumes nothing.
use Prim.Native.Nat.{◌%◌}
use native.Mathlib.Nat.{mod-lt, zero-lt-suc}
use Rattle.words.proofs.BitLaws.{all_or_none}
use Rattle.columns.proofs.Pairs.{two_picked}
use Rattle.columns.proofs.Steps.{turned_by}
use Rattle.columns.proofs.two.Goals as goal

pub returns : goal.returns
returns c =
    two_picked c.args.a c.args.b _ c.requires.0 c.requires.1 c.requires.2 c.args.gate _ c.eq-cx.ensures _ _ c.select_unpredictable-p.ensures c.select_unpredictable-q.ensures
    (λ s. all_or_none _ _ (s % 64) (mod-lt s (zero-lt-suc 63)) c.select_unpredictable-y.ensures) c.add.ensures c.add-2.ensures (turned_by _ c.turn.ensures c.two_turns-turned.ensures)
