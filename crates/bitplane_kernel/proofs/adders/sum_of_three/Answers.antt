use Rattle.bitplane_kernel.proofs.AdderLemmas.{full_sum}
use Rattle.bitplane_kernel.proofs.adders.sum_of_three.Goals as goal

pub returns : goal.returns
returns c = full_sum _ _ _ _ _ _ _ _ c.sum_of_two-two.ensures c.sum_of_two-three.ensures c.or.ensures
