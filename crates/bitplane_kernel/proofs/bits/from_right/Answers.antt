use Rattle.bitplane_kernel.proofs.BitLemmas.{columns_left}
use Rattle.bitplane_kernel.proofs.bits.from_right.Goals as goal

pub returns : goal.returns
returns c = λ x y h k. columns_left c.args.a x y c.fits-a.0 k
