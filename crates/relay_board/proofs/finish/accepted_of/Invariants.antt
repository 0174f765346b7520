use Rattle.std.proofs.Common.{◌≡◌, length, map, take}
use Rattle.inbox.specs.Counts.{counted}
use Rattle.relay_board.specs.Seating.{Seating}
use Rattle.relay_board.proofs.finish.accepted_of.Given as goal

abbrev pub invariant-loop-seat : goal.invariant-loop-seat
invariant-loop-seat g l = l.accepted.items ≡ map (λ (s : Seating). counted (length s.mine)) (take l.seat-index l.seats)
