use Rattle.bitplane_kernel.proofs.LeafLemmas.{MiddleBelow}
use Rattle.bitplane_kernel.proofs.block.Block.centre.Given as goal

abbrev pub invariant-loop-p : goal.invariant-loop-p
invariant-loop-p l = MiddleBelow l.p l.self-inside.planes l.leaf
