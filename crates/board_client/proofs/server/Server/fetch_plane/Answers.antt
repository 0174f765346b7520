use Rattle.std.proofs.Common.{refl}
use Rattle.board_client.proofs.TryLaws.{never_refused}
use Rattle.board_client.proofs.PiecesLaws.{fetch_again}
use Rattle.board_client.proofs.server.Server.fetch_plane.Goals as goal

pub loop-tried-init : goal.loop-tried-init
loop-tried-init g c = (never_refused _ _ _, refl)

pub loop-tried-preserved : goal.loop-tried-preserved
loop-tried-preserved g c = fetch_again _ _ _ _ _ _ _ c.in-Ok.polling c.loop-tried.invariant (c.is_brief.ensures.0 cc) c.in-Ok.ensures
