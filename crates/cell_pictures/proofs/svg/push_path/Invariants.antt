use Rattle.std.proofs.Common.{drop, map}
use Rattle.pattern_cells.specs.Cells.{place_of}
use Rattle.cell_pictures.specs.Paths.{IsPathBegun}
use Rattle.cell_pictures.specs.Runs.{cells_of_state}
use Rattle.cell_pictures.proofs.svg.push_path.Given as goal

abbrev pub invariant-loop-cell : goal.invariant-loop-cell
invariant-loop-cell g l =
    IsPathBegun l.states l.state (g.K.Sink.known l.fn.sink) (g.K.Sink.known l.sink) l.begun
    (map place_of (cells_of_state l.window l.state (drop l.cell-index l.cells)))
    (map place_of (cells_of_state l.window l.state l.cells))
