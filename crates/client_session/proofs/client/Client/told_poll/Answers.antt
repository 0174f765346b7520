use Rattle.std.proofs.Common.{ap, length, sym, subst, Result}
use Rattle.board_client.specs.declared.polling.Polling.{Polling}
use Rattle.board_client.specs.Polling.{IsPoll}
use Rattle.client_session.specs.declared.fault.CommandFault.{CommandFault}
use Rattle.client_session.specs.Moment.{Moment}
use Rattle.client_session.specs.News.{IsPollToldBy}
use Rattle.client_session.proofs.PollLaws.{poll_told, poll_untold}
use Rattle.client_session.proofs.client.Client.told_poll.Goals.{in-Ok-tell, in-Err-tell}
use Rattle.client_session.proofs.client.Client.told_poll.Goals as goal

pub returns : goal.returns
returns g c =
    let m : Moment = record { line = c.self.inside.server; workspace = c.self.inside.workspace; out = c.self.inside.out.items } in
    let n : Moment = record { line = c.poll.new.self; workspace = c.tell.new.self; out = c.tell.new.out.items } in
    elim c.match-tell.branch [
      | in-Ok-tell w ↦ subst (λ (r : Result Polling CommandFault). IsPollToldBy IsPoll c.args.self.now n r) (sym w.result-is)
          (poll_told IsPoll _ m n c.poll.new.replica (length c.journal-known.result.now) c.in-Ok.polling c.self.view_is c.in-Ok.ensures (ap length c.journal-known.ensures.value) w.in-Ok-tell.ensures)
      | in-Err-tell w ↦ subst (λ (r : Result Polling CommandFault). IsPollToldBy IsPoll c.args.self.now n r) (sym w.result-is)
          (poll_untold IsPoll _ m n c.poll.new.replica (length c.journal-known.result.now) c.in-Ok.polling c.self.view_is c.in-Ok.ensures (ap length c.journal-known.ensures.value) w.in-Err-tell.fault w.in-Err-tell.ensures)
    ]
