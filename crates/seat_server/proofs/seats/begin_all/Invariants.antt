use Rattle.std.proofs.Common.{◌≡◌, ◌++◌, map, length}
use Rattle.seat_server.proofs.seats.begin_all.Given as goal

-- the seats of the threads, and those that are left, are all seats
abbrev pub invariant-loop-seat : goal.invariant-loop-seat
invariant-loop-seat g l = map (λ h. h.promise.seat.value) l.threads.items ++ l.left.items ≡ l.fn.seats.items

abbrev pub decreases-loop-seat : goal.decreases-loop-seat
decreases-loop-seat g l = length l.left.items
