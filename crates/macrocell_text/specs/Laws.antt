-- What the writer of macrocells writes of a square is read back as that square; what the live cells of a square are.
use Rattle.std.specs.Prelude.{◌≡◌, ◌≢◌, ℕ, ◌+◌, ◌-◌, ◌^◌, ◌≤◌, ◌<◌, true, AllPairs, Contains, List, count_by, ◌∷◌, ◌++◌, codes, decimal, ◌==◌, if◌then◌else◌, Option, Some, Ok, slice_get}
use Rattle.generations_rule.specs.Place.{Place, is_place}
use Rattle.pattern_cells.specs.declared.cell.Cell.{Cell}
use Rattle.pattern_cells.specs.Cells.{place_of}
use Rattle.bitplane_kernel.specs.Square.{state_at}
use Rattle.macrocell_lines.specs.declared.line.Line.TheVariants as lines
use Rattle.macrocell_lines.specs.Lines.{line_text, rows_text}
use Rattle.macrocell_lines.specs.Squares.{StateSquare, Four, level_of, square_of, state_in}
use Rattle.macrocell_lines.specs.Listing.{IsSquare}
use Rattle.macrocell_text.specs.declared.leaves.Leaves.{Leaves}
use Rattle.macrocell_text.specs.LiveCells.{LiveCell, cells_of_root, live_cells}
use Rattle.macrocell_text.specs.Maps.{map_of_squares, root_of_squares}
use Rattle.macrocell_text.specs.Finding.{AreListed}
use Rattle.macrocell_text.specs.Marks.{rows_told}
use Rattle.macrocell_text.specs.SquareLines.{is_level, square_numbered}
use Rattle.macrocell_text.specs.Macrocells.{AreSquares, MacrocellTold}
use Rattle.macrocell_text.specs.Texts.{macrocell_read, square_numbers}

-- a line of five numbers, without its end
abbrev pub numbers_text : ℕ → ℕ → ℕ → ℕ → ℕ → List ℕ
numbers_text level nw ne sw se = decimal level ++ (32 ∷ (decimal nw ++ (32 ∷ (decimal ne ++ (32 ∷ (decimal sw ++ (32 ∷ decimal se)))))))

-- the writer's line of a square by its quarters
abbrev pub WritesNumbers : Type 0
WritesNumbers = (level nw ne sw se : ℕ) → line_text (lines.Four level nw ne sw se) ≡ numbers_text level nw ne sw se ++ codes "\n"

-- it is read as the square whose quarters its numbers stand for
abbrev pub ReadsNumbersBack : Type 0
ReadsNumbersBack = (line_end : ℕ) (leaves : Option Leaves) (squares : List StateSquare) (level nw ne sw se : ℕ) (a b c d : StateSquare) →
    is_level leaves level ≡ true → nw ≤ 4294967295 → ne ≤ 4294967295 → sw ≤ 4294967295 → se ≤ 4294967295 →
    square_numbered (level - 1) squares nw ≡ Some a → square_numbered (level - 1) squares ne ≡ Some b → square_numbered (level - 1) squares sw ≡ Some c → square_numbered (level - 1) squares se ≡ Some d →
    square_numbers line_end leaves squares (numbers_text level nw ne sw se) ≡ Ok (level, Four a b c d)

-- a state as a mark tells it: dead or live
abbrev pub state_told : ℕ → ℕ
state_told s = if s == 0 then 0 else 1

-- the writer's line of a square by its rows
abbrev pub WritesRows : Type 0
WritesRows = (states : List ℕ) → line_text (lines.Leaf states) ≡ rows_text states ++ codes "\n"

-- it is read as that square, where states are dead or live
abbrev pub ReadsRowsBack : Type 0
ReadsRowsBack = (place : ℕ) (states : List ℕ) → rows_told place (rows_text states) ≡ Ok (square_of 3 (λ u v. state_told (state_at 8 states u v)))

-- ---- live cells

-- a live cell of a square of level k whose upper left cell stands in a column and a row
pub record IsLiveIn (k : ℕ) (q : StateSquare) (column row : ℕ) (cell : LiveCell) : Type 0 where
  pub left : column ≤ cell.column
  pub right : cell.column < column + 2 ^ k
  pub top : row ≤ cell.row
  pub bottom : cell.row < row + 2 ^ k
  pub state_is : state_in q (cell.column - column) (cell.row - row) ≡ cell.state
  pub live : cell.state ≢ 0

-- the live cells that are found of a square of level k are such
abbrev pub FindsOnlyLiveCells : Type 0
FindsOnlyLiveCells = (k : ℕ) (q : StateSquare) (column row : ℕ) (cell : LiveCell) → IsSquare k q → Contains (live_cells (2 ^ k) q column row) cell → IsLiveIn k q column row cell

-- and are all of them
abbrev pub FindsAllLiveCells : Type 0
FindsAllLiveCells = (k : ℕ) (q : StateSquare) (column row : ℕ) (cell : LiveCell) → IsSquare k q → IsLiveIn k q column row cell → Contains (live_cells (2 ^ k) q column row) cell

-- the squares that a text tells are such
abbrev pub TellsSquares : Type 0
TellsSquares = (text : List ℕ) (told : MacrocellTold) → macrocell_read text ≡ Ok told → AreSquares told.squares

-- the cells that are listed of a text have the states of its map at their places, and none is dead
abbrev pub ListsOnlyMap : Type 0
ListsOnlyMap = (text : List ℕ) (told : MacrocellTold) (cell : Cell) → macrocell_read text ≡ Ok told → Contains (cells_of_root (root_of_squares told.squares)) cell →
    (map_of_squares told.squares (place_of cell) ≡ cell.state) × (cell.state ≢ 0)

-- and each place of the map that is not dead has its cell
abbrev pub ListsWholeMap : Type 0
ListsWholeMap = (text : List ℕ) (told : MacrocellTold) (c : Place) → macrocell_read text ≡ Ok told → map_of_squares told.squares c ≢ 0 →
    Contains (cells_of_root (root_of_squares told.squares)) (record { x = c.x; y = c.y; state = map_of_squares told.squares c })

-- no two of the cells that are listed stand at one place
abbrev pub ListsNoPlaceTwice : Type 0
ListsNoPlaceTwice = (text : List ℕ) (told : MacrocellTold) → macrocell_read text ≡ Ok told → AllPairs (λ a b. place_of a ≢ place_of b) (cells_of_root (root_of_squares told.squares))

-- each place of the map that is not dead is listed once, and no other
abbrev pub ListsEachPlaceOnce : Type 0
ListsEachPlaceOnce = (text : List ℕ) (told : MacrocellTold) (cells : List Cell) (c : Place) → macrocell_read text ≡ Ok told → AreListed told.squares cells →
    count_by (λ cell. is_place c (place_of cell)) cells ≡ (if map_of_squares told.squares c == 0 then 0 else 1)
