use Rattle.seat_server.proofs.SeatLaws.{seated_more}
use Rattle.seat_server.proofs.sitting.attend_all.Goals as goal

pub loop-preserved : goal.loop-preserved
loop-preserved g c =
    let one = c.attend-next.ensures in
    seated_more c.args.seat c.loop.left c.loop.last one.0 one.1 c.attend-next.result.0 c.attend-next.result.1 c.loop.invariant one.2 one.3 one.4
