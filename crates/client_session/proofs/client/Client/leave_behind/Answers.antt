use Rattle.std.proofs.Common.{None, subst}
use Rattle.client_session.specs.Leaving.{LeavesBehind}
use Rattle.client_session.specs.Moment.{Moment}
use Rattle.client_session.proofs.BehindLaws.{both_heard}
use Rattle.client_session.proofs.client.Client.leave_behind.Goals as goal

pub returns-in-Ok-hear_reply : goal.returns-in-Ok-hear_reply
returns-in-Ok-hear_reply g c =
    subst (λ (m : Moment). LeavesBehind m
    (record { line = c.hear_farewell.new.self; workspace = record c.self.inside.workspace { replica = c.hear_reply.new.replica; awaited = None }; out = c.self.inside.out.items }) c.hear_farewell.result) c.self.view_is
    (both_heard _ _ _ _ _ _ c.hear_farewell.result c.in-Ok.ensures c.in-Ok-hear_reply.ensures.taken c.hear_farewell.ensures)
