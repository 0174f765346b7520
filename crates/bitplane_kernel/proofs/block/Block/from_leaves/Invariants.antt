use Rattle.bitplane_kernel.proofs.LeafLemmas.{JoinedBelow}
use Rattle.bitplane_kernel.proofs.block.Block.from_leaves.Given as goal

abbrev pub invariant-loop-p : goal.invariant-loop-p
invariant-loop-p l = JoinedBelow l.p l.nw l.ne l.sw l.se l.planes
