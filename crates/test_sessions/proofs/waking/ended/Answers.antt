use Rattle.std.proofs.Common.{subst, sym}
use Rattle.std.specs.Arc.{arc_value}
use Rattle.crossbeam_queue.specs.Passes.{ruled_capacity}
use Rattle.relay_board.specs.Seating.{Numbered}
use Rattle.test_sessions.proofs.FreshSeats.{numbered}
use Rattle.test_sessions.proofs.waking.ended.Goals as goal

pub serve_seats-requires-clause-order : goal.serve_seats-requires-clause-order
serve_seats-requires-clause-order g c =
    subst (Numbered 0) (sym c.in_ok-attendance.ensures.seats) (numbered c.args.opened.first c.args.opened.rule (ruled_capacity (arc_value c.args.opened.drain.queue)) 0 c.in_ok-relay.seats.items c.in_ok-relay.ensures.seats.0)
