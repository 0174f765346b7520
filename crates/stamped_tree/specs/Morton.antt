-- Morton codes, and cells in the order of their codes.
use Rattle.std.specs.Prelude.{◌≡◌, ℕ, zero, suc, ◌+◌, ◌*◌, ◌/◌, ◌%◌, ◌^◌, List, map}
use Rattle.std.specs.Int.{bit_at}
use Rattle.std.specs.List.{All}
use Rattle.std.specs.List.Sorted.{IsNonDecreasingBy}
use Rattle.stamped_tree.specs.declared.cells.ListedCell.{ListedCell}

-- the code of the low w bits of a column and of a row: its bit 2i is bit i of the column, its bit 2i + 1 bit i of the row
unfoldable pub interleaved : (w u v : ℕ) → ℕ
interleaved zero u v = 0
interleaved (suc w) u v = u % 2 + 2 * (v % 2) + 4 * interleaved w (u / 2) (v / 2)

-- the code of a cell's place, of 62 bits
abbrev pub code_of : ListedCell → ℕ
code_of c = interleaved 31 c.column c.row

-- the digit of the code in base 4, which tells the quarter, NW, NE, SW or SE, of a square whose quarters have 2^bit columns and rows
abbrev pub digit_at : ℕ → ListedCell → ℕ
digit_at bit c = 2 * bit_at c.row bit + bit_at c.column bit

-- cells of one square of 2^bit columns and rows, in the order of their codes
pub record IsMortonRun (bit : ℕ) (cells : List ListedCell) : Type 0 where
  pub order : IsNonDecreasingBy code_of cells
  pub square : ℕ
  pub within : All (λ c. code_of c / 2 ^ (2 * bit) ≡ square) cells

-- the column and the row from the corner of the square of n columns and rows that a cell is in
abbrev pub in_square : ℕ → ListedCell → ListedCell
in_square n c = record { column = c.column % n; row = c.row % n; state = c.state }

-- cells of one square of n columns and rows, from its corner
abbrev pub listed_in : ℕ → List ListedCell → List ListedCell
listed_in n cells = map (in_square n) cells
