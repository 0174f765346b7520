use Rattle.bitplane_kernel.proofs.QuarterLemmas.{north_byte, south_byte}
use Rattle.bitplane_kernel.proofs.quarters.bytes_of.Goals as goal

pub returns-clause-north : goal.returns-clause-north
returns-clause-north c = λ y h. north_byte c.args.north c.args.south y c.ranges.north.fits c.ranges.south.fits h

pub returns-clause-south : goal.returns-clause-south
returns-clause-south c = λ y h. south_byte c.args.north c.args.south y c.ranges.north.fits c.ranges.south.fits h
