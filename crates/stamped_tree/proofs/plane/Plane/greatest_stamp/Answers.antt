use Rattle.square_store.proofs.Places.{at_within}
use Rattle.stamped_tree.proofs.Maps.{greatest_read}
use Rattle.stamped_tree.proofs.plane.Plane.greatest_stamp.Goals as goal

pub summary-requires : goal.summary-requires
summary-requires c = at_within c.self.inside.store 28 c.self.inside.root c.self.invariant.root

pub returns-clause-greatest : goal.returns-clause-greatest
returns-clause-greatest c = rw (← c.self.view_is) (greatest_read _ c.summary.result (c.summary.ensures 28 c.self.invariant.root))
