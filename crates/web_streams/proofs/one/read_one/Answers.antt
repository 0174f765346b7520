use Rattle.web_streams.proofs.HearingLaws.{given_message, given_error}
use Rattle.web_streams.proofs.one.read_one.Goals as goal

pub returns-in-Ok : goal.returns-in-Ok
returns-in-Ok g c = rw c.one_of.ensures (given_message g.S.Read.remaining c.args.socket.now c.read.new.self c.in-Ok.message c.requires c.in-Ok.ensures)

pub returns-in-Err : goal.returns-in-Err
returns-in-Err g c = rw c.one_of_error.ensures (given_error g.S.Read.remaining c.args.socket.now c.read.new.self c.in-Err.error c.requires c.in-Err.ensures)
