use Rattle.bitplane_kernel.proofs.QuarterLemmas.{eight_columns_low, eight_columns_high}
use Rattle.bitplane_kernel.proofs.quarters.eight_right.Goals as goal

pub returns-clause-low : goal.returns-clause-low
returns-clause-low c = λ x y hx hy. eight_columns_low c.args.a x y c.fits-a.0 hx hy

pub returns-clause-high : goal.returns-clause-high
returns-clause-high c = λ x y hx hy. eight_columns_high c.args.a x y c.fits-a.0 hx hy
