use mir.Syntax.{w64}
use Rattle.leaf_merge_lanes.proofs.Select.{greater_lanes}
use Rattle.leaf_merge_lanes.proofs.lanes.greater.Goals as goal

pub returns : goal.returns
returns c = greater_lanes w64 c.args.a c.args.b c.fits-a.0 c.fits-b.0
