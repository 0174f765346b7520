-- Windows: the part of a plane that a picture shows.
use Rattle.std.specs.Prelude.{ℕ, ◌^◌, ℤ, pos, ◌+ℤ◌, ◌&&◌, ◌||◌, ◌==◌, not, Bool, int_le, int_lt, nat_lt, List, if◌then◌else◌, Option, Some, None, min}
use Rattle.generations_rule.specs.Place.{Place, at_place}
use Rattle.pattern_cells.specs.declared.cell.Cell.{Cell}
use Rattle.multistate_rle.specs.Bounds.{BoundsValue, bounds_of}

-- a corner, and how many columns and rows there are from it on
pub record WindowValue : Type 0 where
  pub x : ℤ
  pub y : ℤ
  pub width : ℕ
  pub height : ℕ

-- each of its places has coordinates of 32 bits with their signs
abbrev pub is_window : WindowValue → Bool
is_window w = int_le (w.x +ℤ pos w.width) (pos (2 ^ 31)) && int_le (w.y +ℤ pos w.height) (pos (2 ^ 31))

-- it has no place
abbrev pub is_empty : WindowValue → Bool
is_empty w = w.width == 0 || w.height == 0

-- the window, if it has a place and is one
abbrev pub window_given : WindowValue → Option WindowValue
window_given w = if not (is_empty w) && is_window w then Some w else None

-- the place of a column and a row of a window
abbrev pub place_in : WindowValue → ℕ → ℕ → Place
place_in w column row = at_place (w.x +ℤ pos column) (w.y +ℤ pos row)

-- a coordinate is on a side that begins there and is so long
abbrev pub is_on_side : ℤ → ℕ → ℤ → Bool
is_on_side start side n = int_le start n && int_lt n (start +ℤ pos side)

-- the place lies in the window
abbrev pub is_shown : WindowValue → Place → Bool
is_shown w c = is_on_side w.x w.width c.x && is_on_side w.y w.height c.y

abbrev pub window_of : BoundsValue → WindowValue
window_of b = record { x = b.x; y = b.y; width = b.width; height = b.height }

-- the least window that shows all cells; without cells it has no place
abbrev pub box_of : List Cell → WindowValue
box_of cells = window_of (bounds_of cells)

-- ---- cut

abbrev pub most_columns : ℕ
most_columns = 128

abbrev pub most_rows : ℕ
most_rows = 64

-- it has more columns or rows than are drawn in a terminal unless a window is asked for
abbrev pub is_too_large : WindowValue → Bool
is_too_large w = nat_lt most_columns w.width || nat_lt most_rows w.height

-- its first 128 columns and 64 rows
abbrev pub cut : WindowValue → WindowValue
cut w = record w { width = min w.width most_columns; height = min w.height most_rows }
