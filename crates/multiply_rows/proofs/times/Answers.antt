-- `multiply_rows::times` meets its contract. Assumes nothing.
use Rattle.packing.specs.View.{bit_at}
use mathlib.Core.Bool.{◌&&◌}
use Prim.Native.Nat.{◌+◌, ◌*◌}
use Rattle.groups.specs.Parts.Rows.{row_bit}
use Rattle.multiply_rows.proofs.Bitwise.{letters_law, counts_law}
use Rattle.multiply_rows.proofs.Columns.{lettered}
use Rattle.multiply_rows.proofs.times.Goals as goal

pub returns : goal.returns
returns c =
    let a = c.args in
    let w = a.w.now in
    record {
      column = lettered _ c.requires c.store.ensures c.store-2.ensures (λ s l.
          simp (c.bitxor-nx.ensures s l, c.bitxor-nz.ensures s l, c.bitand-x.ensures s l, c.bitand-z.ensures s l, c.bitand.ensures s l, c.bitand-2.ensures s l, c.load.ensures s l, c.load-2.ensures s l)
          (letters_law (bit_at w (8 * a.j) s && row_bit a.sets.kept s) (bit_at w (8 * a.j + 4) s && row_bit a.sets.kept s) (row_bit a.px s) (row_bit a.pz s) (row_bit a.sets.multiplied s)));
      counts = λ s l.
          simp (
            c.bitxor-4.ensures s l,
            c.bitxor-5.ensures s l,
            c.bitand-4.ensures s l,
            c.bitxor-carry.ensures s l,
            c.bitand-odd.ensures s l,
            c.bitxor.ensures s l,
            c.bitxor-2.ensures s l,
            c.bitxor-3.ensures s l,
            c.bitand-t.ensures s l,
            c.bitand-3.ensures s l,
            c.bitxor-nx.ensures s l,
            c.bitxor-nz.ensures s l,
            c.bitand-x.ensures s l,
            c.bitand-z.ensures s l,
            c.bitand.ensures s l,
            c.bitand-2.ensures s l,
            c.load.ensures s l,
            c.load-2.ensures s l,
          )
          (counts_law (bit_at w (8 * a.j) s && row_bit a.sets.kept s) (bit_at w (8 * a.j + 4) s && row_bit a.sets.kept s) (row_bit a.px s) (row_bit a.pz s) (row_bit a.sets.multiplied s) (row_bit a.counts.hi s) (row_bit a.counts.lo s));
    }
