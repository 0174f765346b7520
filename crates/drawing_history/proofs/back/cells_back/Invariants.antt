use Rattle.std.proofs.Common.{◌≡◌, take}
use Rattle.drawing_history.specs.Strokes.{cells_back}
use Rattle.stamped_tree.specs.Plane.{map_of}
use Rattle.drawing_history.proofs.back.cells_back.Given as goal

abbrev pub invariant-loop-stroke : goal.invariant-loop-stroke
invariant-loop-stroke l = l.cells.items ≡ cells_back (map_of l.plane) (take l.stroke-index l.strokes)
