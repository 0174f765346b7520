use Rattle.std.proofs.Common.{◌≡◌, ℕ, ◌<◌}
use Rattle.std.specs.Prelude.{slice_index}
use Rattle.std.specs.Int.{bit_at}
use Rattle.bitplane_kernel.specs.Planes.{number}
use Rattle.bitplane_kernel.specs.Population.{one_unless_dead}
use Rattle.bitplane_kernel.proofs.leaf.BitLeaf.population.Given as goal

abbrev pub invariant-loop-p : goal.invariant-loop-p
invariant-loop-p l = (i : ℕ) → i < 64 → bit_at l.any i ≡ one_unless_dead (number l.p (λ p. bit_at (slice_index l.self-inside.planes p) i))
