use Rattle.bitplane_kernel.proofs.QuarterLemmas.{middle_byte}
use Rattle.bitplane_kernel.proofs.quarters.middle_columns.Goals as goal

pub returns : goal.returns
returns c = λ y h. middle_byte c.args.rows y c.fits-rows.0 h
