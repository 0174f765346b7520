use mir.Syntax.{w64}
use Rattle.leaf_merge_lanes.proofs.Select.{same_answer}
use Rattle.leaf_merge_lanes.proofs.lanes.are_same_stamps.Goals as goal

pub returns : goal.returns
returns c = same_answer w64 c.args.a c.args.b c.fits-a.0 c.fits-b.0
