-- The cells of a universe, as they are listed.
use Rattle.std.specs.Prelude.{◌≡◌, ◌≢◌, ℕ, ◌+◌, ◌-◌, ◌*◌, ◌^◌, ◌<◌, ℤ, pos, negsuc, ◌+ℤ◌, ◌-ℤ◌, nat_abs, Bool, ◌&&◌, int_le, int_lt, List, length, Contains}
use Rattle.generations_rule.specs.Place.{Place}
use Rattle.pattern_cells.specs.declared.cell.Cell.{Cell}
use Rattle.bitplane_kernel.specs.Population.{one_unless_dead, population}
use Rattle.square_store.specs.Grid.{Grid}
use Rattle.square_store.specs.Squares.{Held, side_at, grid_at, four_grid}
use Rattle.square_store.specs.Seen.{AreAt}
use Rattle.stamped_tree.specs.declared.cells.ListedCell.{ListedCell}
use Rattle.stamped_tree.specs.Walk.{AreNonzeroCells, Gathers, IsNonzeroCell}
use Rattle.generation_engine.specs.declared.leaf_kind.EngineLeaf.{EngineLeaf}
use Rattle.generation_engine.specs.EngineLeaf.{leaf_grid}
use Rattle.generation_engine.specs.Universe.{unstamped_writes}

-- the sorted list of the cells of a map of states that are not dead
abbrev pub AreCellsOf : (Place → ℕ) → List Cell → Type 0
AreCellsOf f cells = AreNonzeroCells (unstamped_writes f) cells

-- four parts, two levels below a square, that together are its middle
pub record AreMiddleParts (s : Held EngineLeaf) (k p : ℕ) (parts : List ℕ) : Type 0 where
  pub four : length parts ≡ 4
  pub stand : AreAt s (k - 1 - 1) parts
  pub same : (u v : ℕ) → u < side_at 8 (k - 1) → v < side_at 8 (k - 1) →
      grid_at leaf_grid 8 s k p (side_at 8 (k - 1 - 1) + u) (side_at 8 (k - 1 - 1) + v) ≡ four_grid leaf_grid 8 s (k - 1 - 1) parts u v

-- ---- the middle of the universe: x and y from -2^31 to 2^31 - 1, where all cells are

abbrev pub is_coordinate_in_middle : ℤ → Bool
is_coordinate_in_middle n = int_le (negsuc (2 ^ 31 - 1)) n && int_lt n (pos (2 ^ 31))

abbrev pub is_in_middle : Place → Bool
is_in_middle c = is_coordinate_in_middle c.x && is_coordinate_in_middle c.y

-- how many columns a coordinate is from its left edge, or rows from its upper one
abbrev pub from_middle_edge : ℤ → ℕ
from_middle_edge n = nat_abs (n -ℤ negsuc (2 ^ 31 - 1))

-- a cell's place in the order of rows, where there are 2^32 columns
abbrev pub middle_order : ListedCell → ℕ
middle_order c = c.row * 4294967296 + c.column

-- a cell by its coordinates
abbrev pub cell_of_middle : ListedCell → Cell
cell_of_middle c = record { x = negsuc (2 ^ 31 - 1) +ℤ pos c.column; y = negsuc (2 ^ 31 - 1) +ℤ pos c.row; state = c.state }

-- a cell by its column and row
abbrev pub spot_of : Cell → ListedCell
spot_of c = record { column = from_middle_edge c.x; row = from_middle_edge c.y; state = c.state }

-- its place in the order of rows
abbrev pub row_order : Cell → ℕ
row_order c = middle_order (spot_of c)

-- each cell is told by its column and row
abbrev pub AreInMiddle : List Cell → Type 0
AreInMiddle cells = (c : Cell) → Contains cells c → cell_of_middle (spot_of c) ≡ c

-- the states of the middle of a root, by columns and rows
abbrev pub middle_grid : Held EngineLeaf → ℕ → Grid
middle_grid s root u v = grid_at leaf_grid 8 s 30 root (2147483648 + u) (2147483648 + v)

-- the list gained the cells of a square that are not dead, and is longer by as many as there are
pub record GathersSquare (n : ℕ) (f : Grid) (left top : ℕ) (old new : List ListedCell) : Type 0 where
  pub gathers : Gathers (IsNonzeroCell n f left top) old new
  pub count : length new ≡ length old + population n (λ u v. (f u v).state)

-- the list gained the cell, unless it is dead
pub record GathersOne (cell : ListedCell) (old new : List ListedCell) : Type 0 where
  pub gathers : Gathers (λ c. (c ≡ cell) × (c.state ≢ 0)) old new
  pub count : length new ≡ length old + one_unless_dead cell.state
