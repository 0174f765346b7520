use Rattle.board_client.proofs.TryLaws.{never_refused}
use Rattle.board_client.proofs.PushingLaws.{push_again}
use Rattle.board_client.proofs.server.Server.push_again.Goals as goal

pub loop-tried-init : goal.loop-tried-init
loop-tried-init g c = never_refused _ _ _

pub loop-tried-preserved : goal.loop-tried-preserved
loop-tried-preserved g c = push_again _ _ _ _ _ c.in-Ok.pushing c.loop-tried.invariant (c.is_brief.ensures.0 cc) c.in-Ok.ensures
