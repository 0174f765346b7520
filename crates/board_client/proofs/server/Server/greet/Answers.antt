use Rattle.board_client.proofs.TryLaws.{never_refused}
use Rattle.board_client.proofs.GreetingLaws.{greet_again}
use Rattle.board_client.proofs.server.Server.greet.Goals as goal

pub loop-tried-init : goal.loop-tried-init
loop-tried-init g c = never_refused _ _ _

pub loop-tried-preserved : goal.loop-tried-preserved
loop-tried-preserved g c = greet_again _ _ _ _ c.in-Ok.greeting c.loop-tried.invariant (c.is_brief.ensures.0 cc) c.in-Ok.ensures
