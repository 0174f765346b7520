use Rattle.std.proofs.Common.{◌≡◌, ◌++◌, map, take, drop}
use Rattle.board_keeper.specs.Loading.{raised}
use Rattle.board_keeper.proofs.loading.raise_all.Given as goal

-- those before this one are raised
abbrev pub invariant-loop-seat : goal.invariant-loop-seat
invariant-loop-seat g l = l.seats ≡ map (raised l.newest) (take l.seat-index l.fn.seats) ++ drop l.seat-index l.fn.seats
