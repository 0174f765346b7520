use Rattle.bitplane_kernel.proofs.KeyLemmas.{planes_in}
use Rattle.bitplane_kernel.proofs.leaf.BitLeafHash.hash.Goals as goal

pub returns : goal.returns
returns g c = rw (planes_in _ _ c.self.invariant c.self.view_is) c.hash.ensures
