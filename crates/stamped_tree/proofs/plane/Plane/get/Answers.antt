use Rattle.stamped_tree.proofs.Maps.{stamped}
use Rattle.stamped_tree.proofs.plane.Plane.get.Goals as goal

pub returns-in_default-clause-stamped : goal.returns-in_default-clause-stamped
returns-in_default-clause-stamped c = rw (← c.self.view_is) (stamped _ c.self.invariant)

pub returns-in_default-from_corner-clause-stamped : goal.returns-in_default-from_corner-clause-stamped
returns-in_default-from_corner-clause-stamped c = rw (← c.self.view_is) (stamped _ c.self.invariant)

pub returns-clause-stamped : goal.returns-clause-stamped
returns-clause-stamped c = rw (← c.self.view_is) (stamped _ c.self.invariant)
