use Rattle.leaf_merge_lanes.proofs.Writes.{least_stamp, greatest_stamp}
use Rattle.leaf_merge_lanes.proofs.leaf.Leaf.stamp_bounds.Goals as goal

pub returns-clause-least : goal.returns-clause-least
returns-clause-least c = least_stamp _ _ _ _ c.self.invariant.0 c.self.invariant.1 c.self.view_is c.least.ensures.below c.least.ensures.reached

pub returns-clause-greatest : goal.returns-clause-greatest
returns-clause-greatest c = greatest_stamp _ _ _ _ c.self.invariant.0 c.self.invariant.1 c.self.view_is c.greatest.ensures.above c.greatest.ensures.reached
