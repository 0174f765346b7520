use Rattle.stamped_tree.specs.Plane.{grid_of_leaf}
use Rattle.stamped_tree.proofs.Held.{holds_added, leaf_has}
use Rattle.stamped_tree.proofs.plane.Plane.add_leaf.Goals as goal

pub invariant_of-self-2 : goal.invariant_of-self-2
invariant_of-self-2 c = record {
  root = c.in_ok-part.ensures.grows.stands 28 c.self.inside.root c.self.invariant.root;
  writes = holds_added _ _ 0 (grid_of_leaf c.args.leaf) _ c.self.invariant.writes c.in_ok-part.ensures.grows c.in_ok-part.ensures.draws (leaf_has c.args.leaf c.requires) c.in_ok-part.ensures.added;
}
