use Rattle.std.proofs.Common.{refl, subst}
use Rattle.std.specs.Prelude.{not}
use Rattle.client_session.specs.Moment.{Moment}
use Rattle.client_session.specs.Returning.{GivesBack}
use Rattle.client_session.proofs.ReturnLaws.{gives_back}
use Rattle.client_session.proofs.client.Client.change_seat.Goals as goal

pub returns-clause-before : goal.returns-clause-before
returns-clause-before g c =
    subst (λ (m : Moment). GivesBack (record { replica = c.replace-before.result; is_lost = not c.at_most-is_lost.result }) m.workspace.replica c.args.replica) c.self.view_is
    (rw c.replace-before.ensures.value
    (gives_back _ c.self.inside.workspace.replica c.args.replica c.at_most-is_lost.result c.plane.result.now c.plane-2.result.now refl c.plane.ensures.value c.plane-2.ensures.value c.at_most-is_lost.ensures))
