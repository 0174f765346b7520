-- Which places of a plane are looked for, and what of it a square has.
use Rattle.std.specs.Prelude.{◌≡◌, ℕ, ◌+◌, ◌<◌, ◌≤◌, ℤ, pos, ◌+ℤ◌, Bool, true, false, ◌&&◌, if◌then◌else◌, int_le, int_lt, Option, None, Some, List}
use Rattle.std.specs.List.{list_any}
use Rattle.generations_rule.specs.Place.{Place, moved}
use Rattle.stamped_writes.specs.Write.{Writes, unwritten}
use Rattle.edit_stamps.specs.declared.rect.Rect.{Rect}
use Rattle.edit_stamps.specs.Plane.{is_in, least}
use Rattle.stamped_tree.specs.declared.sought.Sought.{Sought}
use Rattle.stamped_tree.specs.Tree.{plane_corner}

-- one of the areas has the place
abbrev pub is_in_some : List Rect → Place → Bool
is_in_some areas c = list_any (λ area. is_in area c) areas

-- a map as far as some places go: nothing was written elsewhere
abbrev pub part_of : (Place → Bool) → Writes → Writes
part_of is_sought p c = if is_sought c then p c else unwritten

-- whether a place is looked for
abbrev pub seeks : Sought → Place → Bool
seeks Sought.All c = true
seeks (Sought.InAreas areas) c = is_in_some areas.items c

-- the same, where nothing may be
abbrev pub seeks_some : Option Sought → Place → Bool
seeks_some None c = false
seeks_some (Some sought) c = seeks sought c

-- the place in a column and a row of the plane
abbrev pub spot : ℕ → ℕ → Place
spot u v = moved plane_corner (pos u) (pos v)

-- so many coordinates from a start on have one of the columns from one column to another, without the latter
abbrev pub meets_side : ℤ → (length from to : ℕ) → Bool
meets_side start length from to = int_lt start (least +ℤ pos to) && int_lt (least +ℤ pos from) (start +ℤ pos length)

-- and have all of them
abbrev pub covers_side : ℤ → (length from to : ℕ) → Bool
covers_side start length from to = int_le start (least +ℤ pos from) && int_le (least +ℤ pos to) (start +ℤ pos length)

-- an area meets a square with so many columns and rows whose corner is in a column and a row
abbrev pub meets : (left top side : ℕ) → Rect → Bool
meets left top side area = meets_side area.x area.width left (left + side) && meets_side area.y area.height top (top + side)

-- and covers it
abbrev pub covers : (left top side : ℕ) → Rect → Bool
covers left top side area = covers_side area.x area.width left (left + side) && covers_side area.y area.height top (top + side)

-- on a square the same places are looked for
abbrev pub AgreeOn : (left top side : ℕ) → (Place → Bool) → (Place → Bool) → Type 0
AgreeOn left top side f g = (u v : ℕ) → left ≤ u → u < left + side → top ≤ v → v < top + side → g (spot u v) ≡ f (spot u v)

-- what is looked for on a square of what is looked for
abbrev pub IsNarrowed : (left top side : ℕ) → (Place → Bool) → Option Sought → Type 0
IsNarrowed left top side f found = AgreeOn left top side f (seeks_some found)
