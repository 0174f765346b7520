use Rattle.seat_server.proofs.ListLaws.{all_begun, begins}
use Rattle.seat_server.proofs.seats.begin_all.Goals as goal

pub loop-seat-preserved : goal.loop-seat-preserved
loop-seat-preserved g c =
    begins (λ h. h.promise.seat.value) c.loop-seat.threads.items c.push.new.self.items c.in-Some-begun.thread c.in-Some.seat c.loop-seat.left.items c.pop_front.new.self.items c.args.seats.items
    c.in-Ok.ensures.items c.in-Some-begun.ensures c.in-Some.ensures.items c.loop-seat.invariant

pub returns : goal.returns
returns g c = λ whole. all_begun (λ h. h.promise.seat.value) c.loop-seat.threads.items c.loop-seat.left.items c.pop_front.new.self.items c.args.seats.items
    c.in_default.ensures.items c.in_default.ensures.rest c.loop-seat.invariant
