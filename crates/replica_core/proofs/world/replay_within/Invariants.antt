use Rattle.std.proofs.Common.{take}
use Rattle.replica_core.specs.World.{HaveRoom, opening}
use Rattle.replica_core.proofs.RunLaws.{IsRunning}
use Rattle.replica_core.proofs.world.replay_within.Given as goal

abbrev pub invariant-loop-event : goal.invariant-loop-event
invariant-loop-event l = IsRunning (opening l.fn.rule l.n) (take l.event-index l.events) l.replies.items l.world × HaveRoom l.nodes l.world.replicas
