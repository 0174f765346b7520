use Rattle.bitplane_kernel.proofs.PlaneLemmas.{ClearedBelow}
use Rattle.bitplane_kernel.proofs.planes.clear.Given as goal

abbrev pub invariant-loop-p : goal.invariant-loop-p
invariant-loop-p g l = ClearedBelow l.p l.initial.planes l.fn.cells l.planes
