use Rattle.leaf_merge_lanes.proofs.Select.{narrow_ok, narrowed, none_where}
use Rattle.leaf_merge_lanes.proofs.lanes.unless_older.Goals as goal

pub overflow_cast-is_older : goal.overflow_cast-is_older
overflow_cast-is_older c = narrow_ok _ _

pub returns : goal.returns
returns c = rw (narrowed 64 c.args.stamps c.args.others c.fits-stamps.0 c.fits-others.0) (none_where c.args.stamps c.args.others c.args.states c.fits-stamps.0 c.fits-others.0 c.fits-states.0)
