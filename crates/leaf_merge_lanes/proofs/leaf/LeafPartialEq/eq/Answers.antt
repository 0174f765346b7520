use Rattle.std.proofs.Common.{sym, ◌∙◌}
use Rattle.leaf_merge_lanes.specs.Same.{same_views}
use Rattle.leaf_merge_lanes.proofs.leaf.LeafPartialEq.eq.Goals as goal

pub returns : goal.returns
returns c = rw (← c.self.view_is, ← c.other.view_is) (c.are_same.ensures ∙ sym (same_views _ _ _ _ c.self.invariant.0 c.self.invariant.1 c.other.invariant.0 c.other.invariant.1))
