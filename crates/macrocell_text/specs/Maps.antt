-- The map of states that a macrocell tells.
use Rattle.std.specs.Prelude.{ℕ, ◌-◌, pos, ◌+ℤ◌, ◌-ℤ◌, nat_abs, List, length, if◌then◌else◌, Option, Some, None, slice_get}
use Rattle.generations_rule.specs.Place.{Place}
use Rattle.macrocell_lines.specs.Squares.{StateSquare, level_of, state_in}
use Rattle.macrocell_lines.specs.Roots.{half_side, is_in_root}

-- the root of squares: the last one
abbrev pub root_of_squares : List StateSquare → Option StateSquare
root_of_squares squares = slice_get squares (length squares - 1)

-- the column and the row of a place in a root of a level; the corner of the cell 0 1 is its middle
abbrev pub column_in_root : ℕ → Place → ℕ
column_in_root k c = nat_abs (c.x +ℤ half_side k)

abbrev pub row_in_root : ℕ → Place → ℕ
row_in_root k c = nat_abs ((c.y -ℤ pos 1) +ℤ half_side k)

-- the map of a root: outside it states are 0
abbrev pub map_of_root : StateSquare → Place → ℕ
map_of_root q c = if is_in_root (level_of q) c then state_in q (column_in_root (level_of q) c) (row_in_root (level_of q) c) else 0

-- no root is the empty map
abbrev pub map_of : Option StateSquare → Place → ℕ
map_of None c = 0
map_of (Some q) c = map_of_root q c

abbrev pub map_of_squares : List StateSquare → Place → ℕ
map_of_squares squares = map_of (root_of_squares squares)
