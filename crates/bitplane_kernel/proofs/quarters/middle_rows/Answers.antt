use Rattle.bitplane_kernel.proofs.QuarterLemmas.{middle_row}
use Rattle.bitplane_kernel.proofs.quarters.middle_rows.Goals as goal

pub returns : goal.returns
returns c = λ y h. middle_row c.args.plane y c.fits-plane.0 h
