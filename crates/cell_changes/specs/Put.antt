-- Cells that are put behind others.
use Rattle.std.specs.Prelude.{◌≡◌, ◌≢◌, ◌⊎◌, Bool, ◌==◌, not, List, Contains, IsTrue}
use Rattle.generations_rule.specs.Place.{Place}
use Rattle.pattern_cells.specs.declared.cell.Cell.{Cell}
use Rattle.pattern_cells.specs.Cells.{place_of}
use Rattle.stamped_writes.specs.Write.{Writes}
use Rattle.edit_stamps.specs.declared.rect.Rect.{Rect}
use Rattle.edit_stamps.specs.Edit.{PlaneEdit, is_covered}
use Rattle.stamped_tree.specs.Sought.{is_in_some}
use Rattle.cell_changes.specs.Changes.{HaveStatesOf, cell_in}

-- the new list has the cells of the old one and each place that is sought, with its state in a map; where the old cells have their states in the map, the new ones do
pub record Puts (map : Writes) (IsSought : Place → Type 0) (old new : List Cell) : Type 0 where
  pub kept : (cell : Cell) → Contains old cell → Contains new cell
  pub put : (c : Place) → IsSought c → Contains new (cell_in map c)
  pub states : HaveStatesOf map old → HaveStatesOf map new

-- ---- what an edit may change

-- a cell of the list stands at the place
abbrev pub IsPlaceOf : List Cell → Place → Type 0
IsPlaceOf cells c = (cell : Cell) × (Contains cells cell × (place_of cell ≡ c))

-- the edit lists the place, or covers it where its state in a map is not 0
abbrev pub MayChange : Writes → PlaneEdit → Place → Type 0
MayChange map e c = IsPlaceOf e.cells c ⊎ (IsTrue (is_covered e.area c) × ((map c).state ≢ 0))

-- one of the edits may change the place
abbrev pub SomeMayChange : Writes → List PlaneEdit → Place → Type 0
SomeMayChange map edits c = (e : PlaneEdit) × (Contains edits e × MayChange map e c)

-- one of the edits lists the place
abbrev pub SomeLists : List PlaneEdit → Place → Type 0
SomeLists edits c = (e : PlaneEdit) × (Contains edits e × IsPlaceOf e.cells c)

-- one of some areas covers the place, and its state in a map is not 0
pub record IsNonzeroIn (map : Writes) (areas : List Rect) (c : Place) : Type 0 where
  pub covered : IsTrue (is_in_some areas c)
  pub nonzero : (map c).state ≢ 0

-- ---- what has changed

-- a cell's place, with its state in a map
abbrev pub now_in : Writes → Cell → Cell
now_in map cell = cell_in map (place_of cell)

-- whether its state is another one there
abbrev pub has_changed : Writes → Cell → Bool
has_changed map cell = not ((map (place_of cell)).state == cell.state)
