use Rattle.bitplane_kernel.proofs.BitLemmas.{rows_up}
use Rattle.bitplane_kernel.proofs.bits.from_below.Goals as goal

pub returns : goal.returns
returns c = λ x y h k. rows_up c.args.a x y c.fits-a.0 k
