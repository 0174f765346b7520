use Rattle.std.proofs.Common.{◌≡◌, map, take}
use Rattle.pattern_turns.specs.Turning.{turned_cell}
use Rattle.pattern_turns.proofs.turning.turned_cells.Given as goal

abbrev pub invariant-loop-cell : goal.invariant-loop-cell
invariant-loop-cell l = l.turned.items ≡ map (turned_cell l.turn l.sides.width l.sides.height) (take l.cell-index l.cells)
