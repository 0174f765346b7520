-- The writes of an area, on a square.
use Rattle.std.specs.Prelude.{◌≡◌, ◌⊎◌, ◌≤◌, ◌<◌, ℕ, ◌+◌, Bool, ◌&&◌, nat_le, nat_lt, None}
use Rattle.edit_stamps.specs.Edit.{write_by}
use Rattle.square_store.specs.Grid.{Grid}
use Rattle.stamped_tree.specs.declared.area.Area.{Area}

-- the area has the column and the row
abbrev pub is_in_area : Area → ℕ → ℕ → Bool
is_in_area a u v = (nat_le a.left u && nat_lt u a.right) && (nat_le a.top v && nat_lt v a.bottom)

-- state 0 with one stamp in an area, and nothing elsewhere
abbrev pub area_grid : ℕ → Area → Grid
area_grid stamp a u v = write_by stamp None (is_in_area a u v)

-- the second area is what the first has of a square with so many columns and rows, from its corner
abbrev pub IsAreaOfPart : Area → ℕ → ℕ → ℕ → Area → Type 0
IsAreaOfPart a left top side part = (u v : ℕ) → u < side → v < side → is_in_area part u v ≡ is_in_area a (left + u) (top + v)

-- the area has no column, or no row
abbrev pub IsEmptyArea : Area → Type 0
IsEmptyArea a = (a.right ≤ a.left) ⊎ (a.bottom ≤ a.top)

-- the area has the first n columns and rows
abbrev pub IsWholeArea : ℕ → Area → Type 0
IsWholeArea n a = (a.left ≡ 0) × (n ≤ a.right) × (a.top ≡ 0) × (n ≤ a.bottom)
