use Rattle.board_client.proofs.HearingLaws.{heard_none, heard_on}
use Rattle.board_client.proofs.server.Server.hear_texts.Goals as goal

pub loop-text-init : goal.loop-text-init
loop-text-init g c = heard_none _ _

pub loop-text-preserved : goal.loop-text-preserved
loop-text-preserved g c = heard_on _ _ _ _ _ _ _ c.loop-text.invariant c.in-Ok.ensures
