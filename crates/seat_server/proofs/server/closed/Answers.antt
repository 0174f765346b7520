use Rattle.std.proofs.Common.{List, ◌∙◌, subst}
use Rattle.relay_board.specs.Closing.{IsLeft}
use Rattle.relay_board.specs.Seating.{Seating}
use Rattle.seat_server.proofs.server.closed.Goals as goal

pub returns-in-Err-clause-fault : goal.returns-in-Err-clause-fault
returns-in-Err-clause-fault g c = record {
  left = c.in-Err.field-0-0;
  same = c.in-Err.ensures.err.1;
  goes_on = c.in-Err.ensures.err.2;
  is_left = subst (λ (seats : List Seating). IsLeft c.in-Err.fault c.args.relay seats c.in-Err.field-0-0) (c.in-Err.ensures.err.0 ∙ c.in_ok-seats.ensures.seats) c.in-Err.ensures.left;
}
