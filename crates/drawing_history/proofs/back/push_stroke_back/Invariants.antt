use Rattle.std.proofs.Common.{◌≡◌, ◌++◌, take}
use Rattle.std.specs.Prelude.{filter}
use Rattle.drawing_history.specs.Strokes.{is_still}
use Rattle.stamped_tree.specs.Plane.{map_of}
use Rattle.drawing_history.proofs.back.push_stroke_back.Given as goal

abbrev pub invariant-loop-cell : goal.invariant-loop-cell
invariant-loop-cell l = l.cells.items ≡ l.fn.cells.items ++ filter (is_still (map_of l.plane) l.stroke.stamp) (take l.cell-index l.cell-items)
