-- What stands in a rectangle of the plane.
use Rattle.std.specs.Prelude.{ℕ, ℤ, pos, ◌+ℤ◌, Bool, ◌&&◌, int_le, int_lt, if◌then◌else◌}
use Rattle.generations_rule.specs.Place.{Place}
use Rattle.pattern_cells.specs.declared.window.Window.{Window}

-- one of so many coordinates, from a first one on
abbrev pub is_in_span : ℤ → ℕ → ℤ → Bool
is_in_span first count n = int_le first n && int_lt n (first +ℤ pos count)

-- a place is in a window
abbrev pub is_in_window : Window → Place → Bool
is_in_window w c = is_in_span w.x w.width c.x && is_in_span w.y w.height c.y

-- a map of states as it is seen where something is so: dead elsewhere
abbrev pub seen_where : (Place → Bool) → (Place → ℕ) → Place → ℕ
seen_where is_seen f c = if is_seen c then f c else 0
