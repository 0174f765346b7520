-- An edit, by the columns and rows of the plane.
use Rattle.pattern_cells.specs.declared.cell.Cell.{Cell}
use Rattle.edit_stamps.specs.Edit.{PlaneEdit, writes_of}
use Rattle.square_store.specs.Grid.{Grid}
use Rattle.stamped_tree.specs.declared.cells.ListedCell.{ListedCell}
use Rattle.stamped_tree.specs.MapPieces.{square_of}
use Rattle.stamped_tree.specs.Plane.{from_edge}

-- a cell, by its column and row
abbrev pub cell_on_plane : Cell → ListedCell
cell_on_plane c = record { column = from_edge c.x; row = from_edge c.y; state = c.state }

-- what an edit writes, by columns and rows
abbrev pub plane_writes : PlaneEdit → Grid
plane_writes e = square_of (writes_of e)
