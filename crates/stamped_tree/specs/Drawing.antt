-- The writes of an edit, on a square.
use Rattle.std.specs.Prelude.{ℕ, ◌-◌, ◌==◌, ◌&&◌, Bool, nat_le, nat_lt, List, map, filter, Option, option_map, find}
use Rattle.edit_stamps.specs.Edit.{write_by}
use Rattle.square_store.specs.Grid.{Grid}
use Rattle.square_store.specs.Squares.{Held, grid_at}
use Rattle.stamped_tree.specs.Area.{is_in_area}
use Rattle.stamped_tree.specs.LeafKind.{plane_grid}
use Rattle.stamped_tree.specs.Overwriting.{overwritten_grid}
use Rattle.stamped_tree.specs.declared.area.Area.{Area}
use Rattle.stamped_tree.specs.declared.cells.ListedCell.{ListedCell}
use Rattle.stamped_tree.specs.declared.leaf_kind.PlaneLeaf.{PlaneLeaf}

-- the state of the first cell that is listed in a column and a row
abbrev pub state_listed : List ListedCell → ℕ → ℕ → Option ℕ
state_listed cells u v = option_map (λ c. c.state) (find (λ c. c.column == u && c.row == v) cells)

-- the stamp with the listed state; with 0 elsewhere in the area; else nothing
abbrev pub edit_grid : ℕ → Area → List ListedCell → Grid
edit_grid stamp a cells u v = write_by stamp (state_listed cells u v) (is_in_area a u v)

-- the square of level k at p, with an edit written over it
abbrev pub drawn_grid : Held PlaneLeaf → (k p stamp : ℕ) → Area → List ListedCell → Grid
drawn_grid s k p stamp a cells = overwritten_grid (grid_at plane_grid 8 s k p) (edit_grid stamp a cells)

-- a coordinate lies on a side that begins there and is so long
abbrev pub is_on_side : ℕ → ℕ → ℕ → Bool
is_on_side start side n = nat_le start n && nat_lt (n - start) side

abbrev pub is_cell_in : ℕ → ℕ → ℕ → ListedCell → Bool
is_cell_in left top side c = is_on_side left side c.column && is_on_side top side c.row

abbrev pub moved_cell : ℕ → ℕ → ListedCell → ListedCell
moved_cell left top c = record { column = c.column - left; row = c.row - top; state = c.state }

-- the cells that are listed in a square with so many columns and rows, from its corner
abbrev pub cells_in : List ListedCell → ℕ → ℕ → ℕ → List ListedCell
cells_in cells left top side = map (moved_cell left top) (filter (is_cell_in left top side) cells)
