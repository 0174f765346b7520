use Rattle.std.proofs.Common.{length}
use Rattle.relay_board.proofs.Ending.{Goes}
use Rattle.relay_board.proofs.finish.retire_all.Given as goal

abbrev pub invariant-loop-seat : goal.invariant-loop-seat
invariant-loop-seat g l = Goes g.J.Naming.inbox l.fn.drain l.drain l.fn.seats.items l.left.items

abbrev pub decreases-loop-seat : goal.decreases-loop-seat
decreases-loop-seat g l = length l.left.items
