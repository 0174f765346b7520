use Rattle.client_session.proofs.JoinLaws.{ended}
use Rattle.client_session.proofs.client.Client.join.Goals as goal

pub returns-in-Err-first_poll : goal.returns-in-Err-first_poll
returns-in-Err-first_poll g c =
    ended c.args.telling c.args.server c.greet.new.self c.in-Ok.greeting c.new-out.result.items c.set_up.new.out.items c.in-Ok-set_up.workspace c.first_poll.new.self c.in-Err-first_poll.fault c.unjoined.result
    c.new-out.ensures.items c.in-Ok.ensures c.in-Ok-set_up.ensures c.in-Err-first_poll.ensures c.unjoined.ensures
