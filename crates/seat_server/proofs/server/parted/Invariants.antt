use Rattle.std.proofs.Common.{◌≡◌, ◌++◌, map, length}
use Rattle.seat_server.proofs.server.parted.Given as goal

-- what was parted, and what is left, is what there was
abbrev pub invariant-loop-seat : goal.invariant-loop-seat
invariant-loop-seat g l =
    (l.seats.items ++ map (λ a. a.0) l.left.items ≡ map (λ a. a.0) l.fn.attended.items)
    × (l.ends.items ++ map (λ a. a.1) l.left.items ≡ map (λ a. a.1) l.fn.attended.items)

abbrev pub decreases-loop-seat : goal.decreases-loop-seat
decreases-loop-seat g l = length l.left.items
