use Rattle.bitplane_kernel.proofs.QuarterLemmas.{joined_plane}
use Rattle.bitplane_kernel.proofs.quarters.joined.Goals as goal

pub returns : goal.returns
returns c =
    joined_plane c.args.nw c.args.ne c.args.sw c.args.se c.rows_of-west.result c.rows_of-east.result c.eight_right.result c.or.result
    c.rows_of-west.ensures c.rows_of-east.ensures c.eight_right.ensures.low c.eight_right.ensures.high c.or.ensures
