use Rattle.std.proofs.Common.{sym}
use Rattle.leaf_merge_lanes.specs.Same.{states_in}
use Rattle.leaf_merge_lanes.proofs.leaf.Leaf.states.Goals as goal

pub returns : goal.returns
returns c = sym (states_in _ _ _ c.self.invariant.0 c.self.invariant.1 c.self.view_is)
