-- Maps of states of which one is the other, moved.
use Rattle.std.specs.Prelude.{◌≡◌, ◌≢◌, ℕ, ℤ, pos, ◌+ℤ◌, ◌-ℤ◌, Bool, ◌&&◌, List, [], ◌∷◌, fold, Option, Some, None}
use Rattle.std.specs.Int.{int_max, int_min}
use Rattle.std.specs.Ordering.{int_eq}
use Rattle.generations_rule.specs.Place.{Place, moved}
use Rattle.pattern_cells.specs.declared.cell.Cell.{Cell}
use Rattle.map_periods.specs.declared.extent.Extent.{Extent}
use Rattle.map_periods.specs.declared.moves.Move.{Move}

-- the second map is the first one, moved so far to the right and down
abbrev pub IsMoved : (Place → ℕ) → (Place → ℕ) → ℤ → ℤ → Type 0
IsMoved f h right down = (c : Place) → h (moved c right down) ≡ f c

-- The move by which the first map becomes the second: where there is a cell at all, no other does; an empty map is moved by 0 0.
pub record IsTheMove (f h : Place → ℕ) (by : Move) : Type 0 where
  pub moves : IsMoved f h by.x by.y
  pub only : (c : Place) → f c ≢ 0 → (right down : ℤ) → IsMoved f h right down → (right ≡ by.x) × (down ≡ by.y)
  pub empty : ((c : Place) → f c ≡ 0) → (by.x ≡ pos 0) × (by.y ≡ pos 0)

-- no move makes the second map of the first one
abbrev pub IsNotMoved : (Place → ℕ) → (Place → ℕ) → Type 0
IsNotMoved f h = (right down : ℤ) → IsMoved f h right down → ⊥

-- the answer, by which move the second map is the first one
abbrev pub IsMoveOf : (Place → ℕ) → (Place → ℕ) → Option Move → Type 0
IsMoveOf f h None = IsNotMoved f h
IsMoveOf f h (Some by) = IsTheMove f h by

-- a cell, moved so far to the right and down
abbrev pub moved_cell : ℤ → ℤ → Cell → Cell
moved_cell right down cell = record { x = cell.x +ℤ right; y = cell.y +ℤ down; state = cell.state }

-- ---- boxes

-- the box of one cell
abbrev pub extent_at : Cell → Extent
extent_at cell = record { left = cell.x; top = cell.y; right = cell.x; bottom = cell.y }

-- the least box that has another one and a cell
abbrev pub grown : Extent → Cell → Extent
grown extent cell = record {
  left = int_min extent.left cell.x;
  top = int_min extent.top cell.y;
  right = int_max extent.right cell.x;
  bottom = int_max extent.bottom cell.y;
}

-- the least box that has some cells; without a cell that of the origin
abbrev pub extent_of : List Cell → Extent
extent_of [] = record { left = pos 0; top = pos 0; right = pos 0; bottom = pos 0 }
extent_of (first ∷ cells) = fold grown (extent_at first) cells

-- two boxes are as wide, and as high
abbrev pub are_as_large : Extent → Extent → Bool
are_as_large a b = int_eq (a.right -ℤ a.left) (b.right -ℤ b.left) && int_eq (a.bottom -ℤ a.top) (b.bottom -ℤ b.top)
