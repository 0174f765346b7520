use Rattle.bitplane_kernel.proofs.CountLemmas.{pairs_mark}
use Rattle.bitplane_kernel.proofs.counts.pairs.Goals as goal

pub returns : goal.returns
returns c =
    pairs_mark c.args.ones c.args.twos c.not-no_ones.result c.not-no_twos.result _ _ _ _
    c.not-no_ones.ensures c.not-no_twos.ensures c.and.ensures c.and-2.ensures c.and-3.ensures c.and-4.ensures
