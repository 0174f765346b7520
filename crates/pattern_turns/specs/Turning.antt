-- Where the cells of a turned pattern stand.
use Rattle.std.specs.Prelude.{◌≡◌, ℕ, ◌-◌, Bool, true, false, if◌then◌else◌, List, [], ◌∷◌, map, Contains}
use Rattle.pattern_cells.specs.declared.pattern.PatternCell.{PatternCell}
use Rattle.pattern_cells.specs.Pattern.{RlePattern, precedes}
use Rattle.pattern_turns.specs.declared.turn.Turn.{Turn}
use Rattle.pattern_turns.specs.declared.turn.Turn.TheVariants.{Left, Right, Half, Mirror, Flip}

-- columns become rows, and rows columns
abbrev pub is_quarter : Turn → Bool
is_quarter Left = true
is_quarter Right = true
is_quarter Half = false
is_quarter Mirror = false
is_quarter Flip = false

-- the sides of a box of this width and height, when it is turned
abbrev pub turned_width : Turn → ℕ → ℕ → ℕ
turned_width turn width height = if is_quarter turn then height else width

abbrev pub turned_height : Turn → ℕ → ℕ → ℕ
turned_height turn width height = if is_quarter turn then width else height

-- Where a cell of a box of this width and height stands when the box is turned. The first column is 0, and the last one width - 1.
abbrev pub turned_cell : Turn → ℕ → ℕ → PatternCell → PatternCell
turned_cell Left width height cell = record { column = cell.row; row = width - 1 - cell.column; state = cell.state }
turned_cell Right width height cell = record { column = height - 1 - cell.row; row = cell.column; state = cell.state }
turned_cell Half width height cell = record { column = width - 1 - cell.column; row = height - 1 - cell.row; state = cell.state }
turned_cell Mirror width height cell = record { column = width - 1 - cell.column; row = cell.row; state = cell.state }
turned_cell Flip width height cell = record { column = cell.column; row = height - 1 - cell.row; state = cell.state }

-- The new pattern is the old one turned: its cells are the old one's, each where the turn puts it, and no others. Where the box was in its plane, and at which generation, stays.
pub record IsTurned (turn : Turn) (old new : RlePattern) : Type 0 where
  pub width : new.width ≡ turned_width turn old.width old.height
  pub height : new.height ≡ turned_height turn old.width old.height
  pub pos : new.pos ≡ old.pos
  pub generation : new.generation ≡ old.generation
  pub goes : (cell : PatternCell) → Contains old.cells cell → Contains new.cells (turned_cell turn old.width old.height cell)
  pub comes : (cell : PatternCell) → Contains new.cells cell → (from : PatternCell) × Contains old.cells from × (cell ≡ turned_cell turn old.width old.height from)

-- ---- the one such pattern

-- a cell among cells that are in order, before the first that it precedes
abbrev pub put_in_order : PatternCell → List PatternCell → List PatternCell
put_in_order cell [] = cell ∷ []
put_in_order cell (other ∷ cells) = if precedes cell other then cell ∷ other ∷ cells else other ∷ put_in_order cell cells

-- cells by row, then column
abbrev pub in_order : List PatternCell → List PatternCell
in_order [] = []
in_order (cell ∷ cells) = put_in_order cell (in_order cells)

-- a pattern turned: each cell where the turn puts it
unfoldable pub turned_pattern : Turn → RlePattern → RlePattern
turned_pattern turn old = record {
  width = turned_width turn old.width old.height;
  height = turned_height turn old.width old.height;
  pos = old.pos;
  generation = old.generation;
  cells = in_order (map (turned_cell turn old.width old.height) old.cells);
}
