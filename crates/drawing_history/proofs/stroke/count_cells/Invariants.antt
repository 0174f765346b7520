use Rattle.std.proofs.Common.{◌≡◌, ◌-◌, ◌^◌, min, take}
use Rattle.drawing_history.specs.Strokes.{cells_in}
use Rattle.drawing_history.proofs.stroke.count_cells.Given as goal

abbrev pub invariant-loop-stroke : goal.invariant-loop-stroke
invariant-loop-stroke l = l.count ≡ min (cells_in (take l.stroke-index l.strokes)) (2 ^ 64 - 1)
