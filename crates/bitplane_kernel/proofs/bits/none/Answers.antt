use Rattle.bitplane_kernel.proofs.BitLemmas.{splat_none}
use Rattle.bitplane_kernel.proofs.bits.none.Goals as goal

pub returns : goal.returns
returns c = splat_none
