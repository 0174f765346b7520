use Rattle.bitplane_kernel.proofs.BitLemmas.{inverted}
use Rattle.bitplane_kernel.proofs.bits.not.Goals as goal

pub returns : goal.returns
returns c = inverted c.args.a c.fits-a.0 c.fits-a.1
