use Rattle.bitplane_kernel.proofs.PlaneLemmas.{AddedBelow}
use Rattle.bitplane_kernel.proofs.planes.add_one.Given as goal

abbrev pub invariant-loop-p : goal.invariant-loop-p
invariant-loop-p g l = AddedBelow l.p l.initial.planes l.fn.cells l.planes l.carry
