use Rattle.bitplane_kernel.proofs.BitLemmas.{columns_right}
use Rattle.bitplane_kernel.proofs.bits.from_left.Goals as goal

pub returns : goal.returns
returns c = λ x y h k. columns_right c.args.a x y c.fits-a.0 h k
