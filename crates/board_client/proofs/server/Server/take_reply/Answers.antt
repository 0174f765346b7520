use Rattle.std.proofs.Common.{inl, inr, refl}
use Rattle.session_hub.specs.Replies.{whole_mark}
use Rattle.board_client.proofs.server.Server.take_reply.Goals as goal

pub returns-in-Err : goal.returns-in-Err
returns-in-Err g c = inr (record { count = whole_mark; spelt = c.in-Whole.ensures; fails = inl (refl, c.in-Err.ensures) })
