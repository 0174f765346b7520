use Rattle.board_client.proofs.PollingLaws.{replied_so, rule_stays}
use Rattle.board_client.proofs.server.Server.hear_reply.Goals as goal

pub returns-in-Ok-clause-taken : goal.returns-in-Ok-clause-taken
returns-in-Ok-clause-taken g c = replied_so _ _ _ _ _ _ _ _ _ c.in-Ok.ensures c.deref.ensures.value c.take_reply.ensures

pub returns-in-Ok-clause-rule : goal.returns-in-Ok-clause-rule
returns-in-Ok-clause-rule g c = rule_stays _ _ _ _ _ _ (replied_so _ _ _ _ _ _ _ _ c.take_reply.result c.in-Ok.ensures c.deref.ensures.value c.take_reply.ensures)
