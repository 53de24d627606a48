use Rattle.std.proofs.Common.{sym, ◌∙◌, ap, not, ◌<◌, length, arith, below_more}
use Rattle.answers.proofs.First.{lowest_some, lowest_none}
use Rattle.product.proofs.first_unlisted.Goals as goal

pub loop-k-preserved : goal.loop-k-preserved
loop-k-preserved c = below_more _ _ c.loop-k.invariant (sym c.fits.ensures ∙ c.if-not-fits.false)

pub returns-then-not-fits : goal.returns-then-not-fits
returns-then-not-fits c =
    sym (lowest_some _ _ _ (record {
      below = c.loop-k-test.true;
      passes = ap not (sym c.fits.ensures ∙ c.if-not-fits.true);
      first = λ i h. ap not (c.loop-k.invariant i h);
    }))

pub returns : goal.returns
returns c = sym (lowest_none _ (length c.args.s.now) (λ i (h : i < length c.args.s.now). ap not (c.loop-k.invariant i (omega arith))))
