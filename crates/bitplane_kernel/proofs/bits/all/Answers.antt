use Rattle.bitplane_kernel.proofs.BitLemmas.{splat_all}
use Rattle.bitplane_kernel.proofs.bits.all.Goals as goal

pub returns : goal.returns
returns c = splat_all
