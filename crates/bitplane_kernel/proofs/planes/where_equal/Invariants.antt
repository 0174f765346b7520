use Rattle.std.proofs.Common.{◌%◌, ◌^◌}
use Rattle.bitplane_kernel.specs.Planes.{state_in, HasBits}
use Rattle.bitplane_kernel.proofs.CountLemmas.{mark}
use Rattle.bitplane_kernel.proofs.planes.where_equal.Given as goal

abbrev pub invariant-loop-p : goal.invariant-loop-p
invariant-loop-p g l = HasBits l.cells (λ x y. mark (state_in l.p l.planes x y) (l.number % 2 ^ l.p))
