use Rattle.leaf_merge_lanes.proofs.Writes.{at_most_merged}
use Rattle.leaf_merge_lanes.proofs.leaf.Leaf.at_most.Goals as goal

pub returns : goal.returns
returns c = rw (c.eq.ensures, c.merge.ensures.whole) (at_most_merged c.args.a.now c.args.b.now c.merge.ensures.leaves.0 c.merge.ensures.leaves.1)
