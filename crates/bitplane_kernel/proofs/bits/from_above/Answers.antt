use Rattle.bitplane_kernel.proofs.BitLemmas.{rows_down}
use Rattle.bitplane_kernel.proofs.bits.from_above.Goals as goal

pub returns : goal.returns
returns c = λ x y h k. rows_down c.args.a x y c.fits-a.0 k
