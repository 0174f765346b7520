use Rattle.square_store.proofs.Places.{at_within}
use Rattle.stamped_tree.proofs.plane.Plane.root.Goals as goal

pub at-requires : goal.at-requires
at-requires c = at_within c.self.inside.store 28 c.self.inside.root c.self.invariant.root
