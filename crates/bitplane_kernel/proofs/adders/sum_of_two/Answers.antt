use Rattle.bitplane_kernel.proofs.AdderLemmas.{half_sum}
use Rattle.bitplane_kernel.proofs.adders.sum_of_two.Goals as goal

pub returns : goal.returns
returns c = half_sum _ _ _ _ c.xor.ensures c.and.ensures
