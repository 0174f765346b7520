use Rattle.board_client.proofs.PushingLaws.{push_unsaid, pushed_first}
use Rattle.board_client.proofs.server.Server.push.Goals as goal

pub returns-in-Ok : goal.returns-in-Ok
returns-in-Ok g c = pushed_first _ _ _ _ _ c.in-Ok.ensures c.end_push.ensures

pub returns-in-Err : goal.returns-in-Err
returns-in-Err g c = push_unsaid _ _ _ c.in-Err.fault c.in-Err.ensures
