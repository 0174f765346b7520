use Rattle.std.proofs.Common.{◌≡◌, take}
use Rattle.multistate_rle.specs.Bounds.{least_coordinate, greatest_coordinate}
use Rattle.cell_pictures.proofs.window.reach_of.Given as goal

abbrev pub invariant-loop-cell : goal.invariant-loop-cell
invariant-loop-cell l = record {
  left : l.reach.left ≡ least_coordinate (λ cell. cell.x) l.first.x (take l.cell-index l.rest);
  right : l.reach.right ≡ greatest_coordinate (λ cell. cell.x) l.first.x (take l.cell-index l.rest);
  top : l.reach.top ≡ least_coordinate (λ cell. cell.y) l.first.y (take l.cell-index l.rest);
  bottom : l.reach.bottom ≡ greatest_coordinate (λ cell. cell.y) l.first.y (take l.cell-index l.rest);
}
