use Rattle.std.proofs.Common.{◌≡◌}
use Rattle.std.specs.Prelude.{slice_index}
use Rattle.std.specs.Int.{bit_at}
use Rattle.bitplane_kernel.specs.Planes.{number}
use Rattle.bitplane_kernel.proofs.leaf.BitLeaf.get.Given as goal

abbrev pub invariant-loop-p : goal.invariant-loop-p
invariant-loop-p l = l.state ≡ number l.p (λ p. bit_at (slice_index l.self-inside.planes p) l.i)
