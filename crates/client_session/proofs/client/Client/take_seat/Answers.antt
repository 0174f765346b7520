use Rattle.std.proofs.Common.{subst}
use Rattle.client_session.specs.Moment.{Moment}
use Rattle.client_session.specs.Returning.{IsTold}
use Rattle.client_session.proofs.ReturnLaws.{is_told}
use Rattle.client_session.proofs.client.Client.take_seat.Goals as goal

pub returns-in-Ok : goal.returns-in-Ok
returns-in-Ok g c =
    subst (λ (m : Moment). IsTold c.args.heard c.args.server c.args.replica m c.change_seat.new.self c.change_seat.result) c.self.view_is
    (is_told c.args.heard c.args.server c.args.replica (record { line = c.self.inside.server; workspace = c.self.inside.workspace; out = c.self.inside.out.items }) c.change_seat.new.self c.tell_return.new.self c.tell_return.new.out.items c.change_seat.result c.in-Ok.ensures c.change_seat.ensures.moment
    c.change_seat.ensures.before)
