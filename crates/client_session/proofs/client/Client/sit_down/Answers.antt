use Rattle.std.proofs.Common.{Err, Ok, subst}
use Rattle.board_client.specs.declared.polling.Polling.{Polling}
use Rattle.board_client.specs.declared.polling.Polling.TheVariants as polling
use Rattle.board_client.specs.Polling.{IsPoll}
use Rattle.replica_core.specs.Replica.{IsNew}
use Rattle.square_store.specs.Limits.{usual_room}
use Rattle.client_session.specs.Moment.{Moment}
use Rattle.client_session.specs.Returning.{HoldsOn, PollsInVain}
use Rattle.client_session.proofs.ReturnLaws.{sits_down, vain}
use Rattle.client_session.proofs.client.Client.sit_down.Goals as goal

pub returns-in-Err : goal.returns-in-Err
returns-in-Err g c =
    subst (λ (m : Moment). PollsInVain c.args.number c.args.server m (Err c.in-Err.fault) × HoldsOn m m) c.self.view_is
    (vain c.args.number c.args.server c.poll.new.self (record { line = c.self.inside.server; workspace = c.self.inside.workspace; out = c.self.inside.out.items }) c.in-Ok.replica c.poll.new.replica (Err c.in-Err.fault) c.in-Ok.ensures c.in-Err.ensures)

pub returns-in-Refused : goal.returns-in-Refused
returns-in-Refused g c =
    subst (λ (m : Moment). PollsInVain c.args.number c.args.server m (Ok (polling.Refused c.in-Refused.refusal)) × HoldsOn m m) c.self.view_is
    (vain c.args.number c.args.server c.poll.new.self (record { line = c.self.inside.server; workspace = c.self.inside.workspace; out = c.self.inside.out.items }) c.in-Ok.replica c.poll.new.replica (Ok (polling.Refused c.in-Refused.refusal)) c.in-Ok.ensures
    (subst (λ (heard : Polling). IsPoll c.args.server c.poll.new.self c.in-Ok.replica c.poll.new.replica (Ok heard)) c.in-Refused.is c.in-Ok-poll.ensures))

pub returns-in-Edits : goal.returns-in-Edits
returns-in-Edits g c =
    sits_down c.args.number c.args.server c.args.self.now c.take_seat.new.self c.in-Ok-poll.heard c.poll.new.self c.poll.new.replica c.take_seat.result
    (record { fresh = c.in-Ok.replica; is_new = subst (λ (m : Moment). IsNew m.workspace.replica.rule c.args.number usual_room c.in-Ok.replica) c.self.view_is c.in-Ok.ensures; polled = c.in-Ok-poll.ensures }) (rw c.in-Edits.is tt)
    c.take_seat.ensures

pub returns-in-Whole : goal.returns-in-Whole
returns-in-Whole g c =
    sits_down c.args.number c.args.server c.args.self.now c.take_seat-in-Whole.new.self c.in-Ok-poll.heard c.poll.new.self c.poll.new.replica c.take_seat-in-Whole.result
    (record { fresh = c.in-Ok.replica; is_new = subst (λ (m : Moment). IsNew m.workspace.replica.rule c.args.number usual_room c.in-Ok.replica) c.self.view_is c.in-Ok.ensures; polled = c.in-Ok-poll.ensures }) (rw c.in-Whole.is tt)
    c.take_seat-in-Whole.ensures
