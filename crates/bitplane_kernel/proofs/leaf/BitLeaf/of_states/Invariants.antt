use Rattle.bitplane_kernel.proofs.LeafLemmas.{HasDigits}
use Rattle.bitplane_kernel.proofs.leaf.BitLeaf.of_states.Given as goal

abbrev pub invariant-loop-p : goal.invariant-loop-p
invariant-loop-p l = HasDigits l.p l.states l.planes
