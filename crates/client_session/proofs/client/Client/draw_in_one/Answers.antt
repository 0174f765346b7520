use Rattle.std.proofs.Common.{false, subst}
use Rattle.client_session.specs.Drawing.{DrawsWaiting}
use Rattle.client_session.specs.Moment.{Moment}
use Rattle.client_session.proofs.BehindLaws.{refused_on, said_on}
use Rattle.client_session.proofs.client.Client.draw_in_one.Goals as goal

pub returns-in-Ok-Said : goal.returns-in-Ok-Said
returns-in-Ok-Said g c =
    subst (λ (m : Moment). DrawsWaiting false c.args.after c.args.spec.now m c.hear_drawing.new.self c.hear_drawing.result) c.self.view_is
    (said_on c.args.after c.args.spec.now (record { line = c.self.inside.server; workspace = c.self.inside.workspace; out = c.self.inside.out.items }) _ c.hear_drawing.result
    (record { line = c.say_drawing.new.self; pushed = c.in-Ok-Said.pushed; said = rw c.in-Ok-Said.field-0-is at c.in-Ok-Said.ensures; hears = c.hear_drawing.ensures }))

pub returns-in-Ok-Refused : goal.returns-in-Ok-Refused
returns-in-Ok-Refused g c =
    subst (λ (m : Moment). DrawsWaiting false c.args.after c.args.spec.now m c.tell_refused.new.self c.tell_refused.result) c.self.view_is
    (refused_on c.args.after c.args.spec.now (record { line = c.self.inside.server; workspace = c.self.inside.workspace; out = c.self.inside.out.items }) _ _ c.in-Ok-Refused.fault c.tell_refused.result (rw c.in-Ok-Refused.field-0-is at c.in-Ok-Refused.ensures) c.tell_refused.ensures)
