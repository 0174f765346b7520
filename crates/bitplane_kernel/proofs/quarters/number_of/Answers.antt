use Rattle.bitplane_kernel.proofs.QuarterLemmas.{bits_of_rows}
use Rattle.bitplane_kernel.proofs.quarters.number_of.Goals as goal

pub returns : goal.returns
returns c = λ x y hx hy. bits_of_rows c.args.rows x y c.fits-rows.0 hx hy c.fits-rows.1
