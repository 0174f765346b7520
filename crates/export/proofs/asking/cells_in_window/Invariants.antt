use Rattle.std.proofs.Common.{◌≡◌, take}
use Rattle.std.specs.Prelude.{filter}
use Rattle.pattern_cells.specs.Cells.{place_of}
use Rattle.pattern_cells.specs.Window.{is_in_window}
use Rattle.export.proofs.asking.cells_in_window.Given as goal

abbrev pub invariant-loop-cell : goal.invariant-loop-cell
invariant-loop-cell l = l.seen.items ≡ filter (λ cell. is_in_window l.window (place_of cell)) (take l.cell-index l.cells)
