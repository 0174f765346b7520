use Rattle.std.proofs.Common.{◌≡◌, map, take}
use Rattle.map_periods.specs.Moves.{moved_cell}
use Rattle.map_periods.proofs.moves.are_moved.Given as goal

abbrev pub invariant-loop-index : goal.invariant-loop-index
invariant-loop-index l = take l.index l.after ≡ map (moved_cell l.by.x l.by.y) (take l.index l.before)
