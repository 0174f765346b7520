use Rattle.bitplane_kernel.proofs.KeyLemmas.{eq_of_planes}
use Rattle.bitplane_kernel.proofs.leaf.BitLeafPartialEq.eq.Goals as goal

pub returns : goal.returns
returns c = eq_of_planes _ _ _ _ _ c.are_same.ensures c.self.invariant c.other.invariant c.self.view_is c.other.view_is
