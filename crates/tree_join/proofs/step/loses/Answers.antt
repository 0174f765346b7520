use Rattle.square_store.proofs.Places.{at_within}
use Rattle.tree_join.proofs.step.loses.Goals as goal

pub square-requires : goal.square-requires
square-requires c = at_within c.args.plane.now.store c.args.above c.args.here c.requires.here

pub square-requires-2 : goal.square-requires-2
square-requires-2 c = at_within c.args.other.now.store c.args.above c.args.there c.requires.there

pub returns : goal.returns
returns c = λ h. (rw (c.square.ensures, c.square-2.ensures) at c.is_surely_at_most.ensures) h c.args.above c.requires.here c.requires.there
