use Rattle.std.proofs.Common.{◌≡◌}
use Rattle.relay_board.proofs.seat.Seat.receive.Given as goal

abbrev pub invariant-loop : goal.invariant-loop
invariant-loop g l = l.pending ≡ l.fn.pending
