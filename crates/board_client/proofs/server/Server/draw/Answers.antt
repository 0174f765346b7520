use Rattle.std.proofs.Common.{Ok, max, refl, subst}
use Rattle.edit_stamps.specs.Stamp.{counter_in}
use Rattle.replica_core.specs.Replica.{edit_drawn}
use Rattle.board_client.specs.Saying.{SaysPush}
use Rattle.board_client.proofs.PublishingLaws.{draws_nothing, draws_said}
use Rattle.board_client.proofs.server.Server.draw.Goals as goal

pub returns-in-Ok-Said : goal.returns-in-Ok-Said
returns-in-Ok-Said g c =
    let said = c.in-Ok-Said.ensures in
    let replica = c.args.replica.now in
    let meant = edit_drawn replica.rule (max c.args.after (counter_in said.0)) replica.number c.args.spec.now in
    let push = subst (λ saying. SaysPush replica.rule meant c.args.self.now c.say_drawing.new.self (Ok saying)) c.in-Ok-Said.field-0-is said.2 in
    (said.0, said.1, draws_said _ _ _ _ _ _ _ _ push.0 push.2 c.end_drawing.ensures)

pub returns-in-Err : goal.returns-in-Err
returns-in-Err g c =
    let said = c.in-Err.ensures in
    (said.0, said.1, draws_nothing _ _ _ _ _ _ c.in-Err.fault refl refl said.2)
