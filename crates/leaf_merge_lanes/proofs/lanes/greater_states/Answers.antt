use mir.Syntax.{w8}
use Rattle.leaf_merge_lanes.proofs.Select.{greater_lanes}
use Rattle.leaf_merge_lanes.proofs.lanes.greater_states.Goals as goal

pub returns : goal.returns
returns c = greater_lanes w8 c.args.a c.args.b c.fits-a.0 c.fits-b.0
