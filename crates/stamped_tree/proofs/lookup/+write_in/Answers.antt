use Rattle.square_store.proofs.Places.{at_within}
use Rattle.stamped_tree.proofs.lookup.+write_in.Goals as goal

pub square-requires : goal.square-requires
square-requires t c = at_within c.args.store.now c.args.level c.args.part c.requires.part
