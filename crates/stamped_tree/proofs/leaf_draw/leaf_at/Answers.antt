use Rattle.square_store.proofs.Places.{at_within}
use Rattle.stamped_tree.proofs.leaf_draw.leaf_at.Goals as goal

pub square-requires : goal.square-requires
square-requires c = at_within c.args.store.now 0 c.args.part c.requires
