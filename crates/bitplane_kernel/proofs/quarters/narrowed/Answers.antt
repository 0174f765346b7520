use Rattle.std.proofs.Common.{arith}
use Rattle.bitplane_kernel.proofs.QuarterLemmas.{same_row}
use Rattle.bitplane_kernel.proofs.quarters.narrowed.Goals as goal

pub returns : goal.returns
returns c = λ y h. same_row c.args.rows y (omega (arith, c.fits-rows.0))
