use Rattle.std.proofs.Math.ListN.{replicate}
use Rattle.replica_core.specs.World.{HaveRoom, StandSideBySide, StandsFor, beginner}
use Rattle.replica_core.proofs.world.beginners.Given as goal

abbrev pub invariant-loop-index : goal.invariant-loop-index
invariant-loop-index l = StandSideBySide (StandsFor l.rule) (replicate l.index beginner) l.replicas.items × HaveRoom l.nodes l.replicas.items
