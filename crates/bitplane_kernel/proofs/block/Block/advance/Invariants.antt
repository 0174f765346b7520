use Rattle.bitplane_kernel.specs.Planes.{block_states}
use Rattle.bitplane_kernel.specs.Advance.{Advances}
use Rattle.bitplane_kernel.proofs.block.Block.advance.Given as goal

abbrev pub invariant-loop-done : goal.invariant-loop-done
invariant-loop-done l = Advances l.rule l.done (block_states l.initial.self-inside.planes) (block_states l.self-inside.planes)
