use Rattle.seat_server.proofs.ListLaws.{parts_begin, parts_end, parts_more}
use Rattle.seat_server.proofs.server.parted.Goals as goal

pub loop-seat-init : goal.loop-seat-init
loop-seat-init g c = (
  parts_begin (λ a. a.0) c.new-seats.result.items c.from-left.result.items c.args.attended.items c.new-seats.ensures.items c.from-left.ensures.0,
  parts_begin (λ a. a.1) c.new-ends.result.items c.from-left.result.items c.args.attended.items c.new-ends.ensures.items c.from-left.ensures.0,
)

pub loop-seat-preserved : goal.loop-seat-preserved
loop-seat-preserved g c = (
  parts_more (λ a. a.0) c.loop-seat.seats.items c.push.new.self.items (c.in-Some.seat, c.in-Some.end) c.loop-seat.left.items c.pop_front.new.self.items _ c.in_ok-push.ensures.items
      c.in-Some.ensures.items c.loop-seat.invariant.0,
  parts_more (λ a. a.1) c.loop-seat.ends.items c.push-in-Some.new.self.items (c.in-Some.seat, c.in-Some.end) c.loop-seat.left.items c.pop_front.new.self.items _ c.in_ok-push-2.ensures.items
      c.in-Some.ensures.items c.loop-seat.invariant.1,
)

pub returns-clause-seats : goal.returns-clause-seats
returns-clause-seats g c = parts_end (λ a. a.0) c.loop-seat.seats.items c.loop-seat.left.items c.pop_front.new.self.items _ c.in_default.ensures.items c.in_default.ensures.rest c.loop-seat.invariant.0

pub returns-clause-ends : goal.returns-clause-ends
returns-clause-ends g c = parts_end (λ a. a.1) c.loop-seat.ends.items c.loop-seat.left.items c.pop_front.new.self.items _ c.in_default.ensures.items c.in_default.ensures.rest c.loop-seat.invariant.1
