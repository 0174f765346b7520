use Rattle.std.proofs.Common.{Err, max, refl, subst}
use Rattle.edit_stamps.specs.Stamp.{counter_in}
use Rattle.replica_core.specs.Replica.{IsMadeAs, edit_drawn}
use Rattle.board_client.proofs.DrawingLaws.{unrefused}
use Rattle.board_client.proofs.server.Server.say_drawing.Goals as goal

pub returns-in-Err-Memory : goal.returns-in-Err-Memory
returns-in-Err-Memory g c =
    let made = c.in-Err-Memory.ensures.made in
    let replica = c.args.replica.now in
    let counter = max c.args.after (counter_in made.0) in
    let drawn = edit_drawn replica.rule counter replica.number c.args.spec.now in
    let unmet = subst (λ fault. IsMadeAs drawn (Err fault)) c.in-Err-Memory.field-0-is made.2 in
    (made.0, made.1, (unrefused replica.rule counter replica.number c.args.spec.now unmet, refl))
