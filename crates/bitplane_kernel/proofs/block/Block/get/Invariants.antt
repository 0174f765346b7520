use Rattle.std.proofs.Common.{◌≡◌}
use Rattle.bitplane_kernel.specs.Planes.{state_in}
use Rattle.bitplane_kernel.proofs.block.Block.get.Given as goal

abbrev pub invariant-loop-p : goal.invariant-loop-p
invariant-loop-p l = l.state ≡ state_in l.p l.self-inside.planes l.x l.y
