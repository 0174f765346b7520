-- The live cells of a square of states, and of the map of a macrocell.
use Rattle.std.specs.Prelude.{◌≡◌, ℕ, suc, ◌+◌, ◌-◌, ◌*◌, ◌/◌, ◌^◌, pos, negsuc, ◌-ℤ◌, Bool, not, ◌&&◌, List, [], ◌∷◌, ◌++◌, length, map, min, nat_lt, int_le, ◌==◌, if◌then◌else◌, Option, Some, None}
use Rattle.std.specs.Int.{bit_at}
use Rattle.std.specs.List.{list_all}
use Rattle.generations_rule.specs.Refusal.{first_of, when}
use Rattle.pattern_cells.specs.declared.cell.Cell.{Cell}
use Rattle.edit_stamps.specs.Plane.{is_coordinate}
use Rattle.macrocell_text.specs.declared.listing_fault.ListingFault.{ListingFault}
use Rattle.macrocell_text.specs.declared.listing_fault.ListingFault.TheVariants.{TooManyCells, OutOfPlane}
use Rattle.macrocell_lines.specs.Squares.{StateSquare, Cell as CellSquare, Four, level_of}
use Rattle.macrocell_text.specs.Maps.{root_of_squares}

-- how many cells are not dead
abbrev pub population : StateSquare → ℕ
population (CellSquare s) = if s == 0 then 0 else 1
population (Four nw ne sw se) = (population nw + population ne) + (population sw + population se)

abbrev pub population_of : Option StateSquare → ℕ
population_of None = 0
population_of (Some q) = population q

-- ---- cells

-- a cell that is not dead, by its column and row
pub record LiveCell : Type 0 where
  pub column : ℕ
  pub row : ℕ
  pub state : ℕ

-- those of a square of so many columns and rows, whose upper left cell stands in a column and a row
abbrev pub live_cells : ℕ → StateSquare → ℕ → ℕ → List LiveCell
live_cells side (CellSquare s) column row = if s == 0 then [] else record { column = column; row = row; state = s } ∷ []
live_cells side (Four nw ne sw se) column row =
    (live_cells (side / 2) nw column row ++ live_cells (side / 2) ne (column + side / 2) row)
    ++ (live_cells (side / 2) sw column (row + side / 2) ++ live_cells (side / 2) se (column + side / 2) (row + side / 2))

-- a cell by its coordinates in the map of a root that has twice so many columns; the corner of the cell 0 1 is the root's middle
abbrev pub placed : ℕ → LiveCell → Cell
placed half c = record { x = pos c.column -ℤ pos half; y = pos (suc c.row) -ℤ pos half; state = c.state }

abbrev pub cells_of_root : Option StateSquare → List Cell
cells_of_root None = []
cells_of_root (Some q) = map (placed (2 ^ (level_of q - 1))) (live_cells (2 ^ level_of q) q 0 0)

-- coordinates of 32 bits
abbrev pub lies_in_plane : Cell → Bool
lies_in_plane cell = is_coordinate cell.x && is_coordinate cell.y

-- the most cells that are listed
abbrev pub most_listed : ℕ
most_listed = 16777216

-- why the cells of squares' map are not listed
abbrev pub listing_refusal : List StateSquare → Option ListingFault
listing_refusal squares = first_of (
    when (nat_lt most_listed (population_of (root_of_squares squares))) TooManyCells
    ∷ when (not (list_all lies_in_plane (cells_of_root (root_of_squares squares)))) OutOfPlane ∷ [])

-- ---- counts that stop

abbrev pub capped_count : StateSquare → ℕ
capped_count q = min 16777217 (population q)

-- the states of a square of level 3 that has a bit for each
abbrev pub bits_of : ℕ → ℕ → ℕ → ℕ
bits_of rows u v = bit_at rows (8 * v + u)
