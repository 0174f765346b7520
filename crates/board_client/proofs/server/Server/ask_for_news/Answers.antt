use Rattle.board_client.proofs.PollingLaws.{replied_so}
use Rattle.board_client.proofs.server.Server.ask_for_news.Goals as goal

pub returns-in-Ok : goal.returns-in-Ok
returns-in-Ok g c = replied_so _ _ _ _ _ _ _ _ _ c.in-Ok.ensures c.deref.ensures.value c.take_reply.ensures
