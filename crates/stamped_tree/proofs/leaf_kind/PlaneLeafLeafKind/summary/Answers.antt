use Rattle.stamped_tree.proofs.Bounds.{bounds_leaf}
use Rattle.stamped_tree.proofs.leaf_kind.PlaneLeafLeafKind.summary.Goals as goal

pub returns : goal.returns
returns c = bounds_leaf c.args.self.now _ c.stamp_bounds-least.ensures.least c.stamp_bounds-least.ensures.greatest
