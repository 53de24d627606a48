-- `read_rows::RowTexts::sliced` meets its contract: the rows passed are in the bytes. Assumes nothing.
use Rattle.std.proofs.Common.{refl, ◌∙◌, ap, ℕ, List, get_or, eqb, rules}
use Rattle.pauli.specs.Letters.{x, z}
use Rattle.words.specs.Bit.{bit}
use Rattle.pauli.specs.Texts.{letter_of}
use Rattle.read_rows.proofs.Texts.{letter_count, letter_byte_at}
use Rattle.read_rows.proofs.Stacks.{built_none, built_more}
use Rattle.read_rows.proofs.Slices.{turned_count, sliced_none, sliced_more}
use Rattle.read_rows.proofs.RowTexts.sliced.Goals as goal

pub loop-i-init : goal.loop-i-init
loop-i-init c = record { xs = sliced_none _ _; zs = sliced_none _ _; signs = built_none _ }

pub loop-i-preserved : goal.loop-i-preserved
loop-i-preserved c =
    let l = c.loop-i in
    let n = c.args.self.now.qubits in
    let row = c.row-row in
    let count = letter_count row.result.now _ n row.ensures.text row.ensures.size in
    let at = letter_byte_at row.result.now _ n row.ensures.text row.ensures.size in
    record {
      xs = sliced_more _ _ n l.i _ l.p.x _ (search rules) (search rules) l.invariant.xs refl (λ j h. ap (λ (b : ℕ). x (letter_of b)) (at j h)) (turned_count count c.slice.ensures.x_turned);
      zs = sliced_more _ _ n l.i _ l.p.z _ (search rules) (search rules) l.invariant.zs refl (λ j h. ap (λ (b : ℕ). z (letter_of b)) (at j h)) (turned_count count c.slice.ensures.z_turned);
      signs = built_more _ l.i c.slice.new.p.signs _ _ (search rules) (λ k. ap (bit k) c.slice.ensures.signs_kept ∙ l.invariant.signs k) c.from.ensures (ap (λ (s : List ℕ). eqb (get_or s 0 0) 45) row.ensures.text);
    }
