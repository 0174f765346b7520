use Rattle.std.proofs.Common.{ap, sym, ◌∙◌, length}
use Rattle.bitplane_kernel.specs.Digits.{leaf_length}
use Rattle.bitplane_kernel.proofs.KeyLemmas.{dead_planes}
use Rattle.bitplane_kernel.proofs.leaf.BitLeaf.is_dead.Goals as goal

pub returns-clause-dead : goal.returns-clause-dead
returns-clause-dead c = dead_planes _ _ _ c.are_same.ensures c.self.invariant c.self.view_is

pub returns-clause-side : goal.returns-clause-side
returns-clause-side c = ap length (sym c.self.view_is) ∙ leaf_length c.self.inside.planes
