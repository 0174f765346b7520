-- The cells of a map whose state is not 0.
use Rattle.std.specs.Prelude.{◌≡◌, ◌≢◌, ◌⊎◌, ℕ, ◌+◌, ◌-◌, ◌*◌, ◌<◌, ◌≤◌, Bool, false, ◌&&◌, ◌==◌, nat_lt, pos, ◌+ℤ◌, List, Contains, unwrap_or, IsTrue}
use Rattle.std.specs.List.{IsDistinct}
use Rattle.generations_rule.specs.Place.{Place}
use Rattle.pattern_cells.specs.declared.cell.Cell.{Cell}
use Rattle.pattern_cells.specs.Cells.{is_sorted, are_nonzero}
use Rattle.edit_stamps.specs.Edit.{listed}
use Rattle.edit_stamps.specs.Plane.{least}
use Rattle.stamped_writes.specs.Write.{Writes}
use Rattle.square_store.specs.Grid.{Grid}
use Rattle.stamped_tree.specs.declared.cells.ListedCell.{ListedCell}

-- the sorted list of a map's states that are not 0
pub record AreNonzeroCells (p : Writes) (cells : List Cell) : Type 0 where
  pub sorted : IsTrue (is_sorted cells)
  pub nonzero : IsTrue (are_nonzero cells)
  pub states : (c : Place) → unwrap_or (listed cells c) 0 ≡ (p c).state

-- a cell of a square with n columns and rows, whose corner is in a column and a row: the square's state there, which is not 0
pub record IsNonzeroCell (n : ℕ) (f : Grid) (left top : ℕ) (c : ListedCell) : Type 0 where
  pub from_left : left ≤ c.column
  pub from_top : top ≤ c.row
  pub column : c.column < left + n
  pub row : c.row < top + n
  pub state : (f (c.column - left) (c.row - top)).state ≡ c.state
  pub nonzero : c.state ≢ 0

-- two cells are listed in one column and row
abbrev pub is_one_spot : ListedCell → ListedCell → Bool
is_one_spot c d = c.column == d.column && c.row == d.row

-- the new list has the cells of the old one and these others; and each once, where the old one had each once and none of the others' columns and rows
pub record Gathers (IsOther : ListedCell → Type 0) (old new : List ListedCell) : Type 0 where
  pub kept : (c : ListedCell) → Contains old c → Contains new c
  pub got : (c : ListedCell) → IsOther c → Contains new c
  pub only : (c : ListedCell) → Contains new c → Contains old c ⊎ IsOther c
  pub once : IsDistinct is_one_spot old → ((c d : ListedCell) → Contains old c → IsOther d → is_one_spot c d ≡ false) → IsDistinct is_one_spot new

-- the list has these cells, and each once
pub record AreGathered (IsCell : ListedCell → Type 0) (cells : List ListedCell) : Type 0 where
  pub got : (c : ListedCell) → IsCell c → Contains cells c
  pub only : (c : ListedCell) → Contains cells c → IsCell c
  pub once : IsDistinct is_one_spot cells

-- a cell's place in the order of rows, where there are 2^31 columns
abbrev pub row_order : ListedCell → ℕ
row_order c = c.row * 2147483648 + c.column

-- the plane has the column and the row
abbrev pub is_on_plane : ListedCell → Bool
is_on_plane c = nat_lt c.column 2147483648 && nat_lt c.row 2147483648

-- a cell by its coordinates
abbrev pub cell_of_plane : ListedCell → Cell
cell_of_plane c = record { x = least +ℤ pos c.column; y = least +ℤ pos c.row; state = c.state }
