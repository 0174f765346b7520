-- Columns and rows of the middle of a universe, and what is seen in them.
use Rattle.std.specs.Prelude.{◌≡◌, ℕ, ◌+◌, ◌-◌, ◌^◌, ◌<◌, Bool, true, ◌&&◌, nat_le, nat_lt, if◌then◌else◌, ℤ, pos, negsuc, ◌+ℤ◌}
use Rattle.generations_rule.specs.Place.{Place}
use Rattle.pattern_cells.specs.declared.window.Window.{Window}
use Rattle.pattern_cells.specs.Window.{is_in_window}
use Rattle.square_store.specs.Grid.{Grid, blank_grid}
use Rattle.generation_engine.specs.Walk.{from_middle_edge, is_in_middle}
use Rattle.generation_engine.specs.declared.region.Region.{Region}

-- a number is from the first on, and below the one past the last
abbrev pub is_between : ℕ → ℕ → ℕ → Bool
is_between first past n = nat_le first n && nat_lt n past

-- the region has the column and the row
abbrev pub is_in_region : Region → ℕ → ℕ → Bool
is_in_region r u v = is_between r.left r.right u && is_between r.top r.bottom v

-- of the middle the region has what the window has
abbrev pub IsRegionOf : Window → Region → Type 0
IsRegionOf w r = (c : Place) → is_in_middle c ≡ true → is_in_region r (from_middle_edge c.x) (from_middle_edge c.y) ≡ is_in_window w c

-- two regions have a column and a row in common
abbrev pub HaveCommon : Region → Region → Type 0
HaveCommon r q = (u : ℕ) × (v : ℕ) × (is_in_region r u v ≡ true) × (is_in_region q u v ≡ true)

-- the first region has all columns and rows of the other
abbrev pub has_region : Region → Region → Bool
has_region r q = (nat_le r.left q.left && nat_le q.right r.right) && (nat_le r.top q.top && nat_le q.bottom r.bottom)

-- the writes of a square, whose corner is in a column and a row, as they are seen in a region: dead elsewhere
abbrev pub seen_grid : Region → ℕ → ℕ → Grid → Grid
seen_grid r left top f u v = if is_in_region r (left + u) (top + v) then f u v else blank_grid 0 u v

-- the region has a column and a row, and ends before column and row 2^32
pub record IsNarrow (r : Region) : Type 0 where
  pub columns : r.left < r.right
  pub right : r.right < 2 ^ 32
  pub rows : r.top < r.bottom
  pub bottom : r.bottom < 2 ^ 32

-- the coordinate of a column of the middle, or of a row
abbrev pub middle_coordinate : ℕ → ℤ
middle_coordinate n = negsuc (2 ^ 31 - 1) +ℤ pos n
