use Rattle.std.proofs.Common.{◌≡◌, take}
use Rattle.multistate_rle.specs.Bounds.{least_coordinate, greatest_coordinate}
use Rattle.multistate_rle.proofs.bounds.bounds_round.Given as goal

abbrev pub invariant-loop-cell : goal.invariant-loop-cell
invariant-loop-cell l = l.reach ≡ record {
  left = least_coordinate (λ cell. cell.x) l.first.x (take l.cell-index l.rest);
  right = greatest_coordinate (λ cell. cell.x) l.first.x (take l.cell-index l.rest);
  top = least_coordinate (λ cell. cell.y) l.first.y (take l.cell-index l.rest);
  bottom = greatest_coordinate (λ cell. cell.y) l.first.y (take l.cell-index l.rest);
}
