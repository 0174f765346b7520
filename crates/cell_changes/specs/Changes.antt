-- Which cells of a map look different in another.
use Rattle.std.specs.Prelude.{◌≡◌, ◌≢◌, ◌↔◌, List, Contains, IsTrue}
use Rattle.generations_rule.specs.Place.{Place}
use Rattle.pattern_cells.specs.declared.cell.Cell.{Cell}
use Rattle.pattern_cells.specs.Cells.{place_of, is_sorted}
use Rattle.stamped_writes.specs.Write.{Writes, AreSame, joined}

-- a place, and its state in a map
abbrev pub cell_in : Writes → Place → Cell
cell_in map c = record { x = c.x; y = c.y; state = (map c).state }

-- by y, then x, each place whose state in a map is another one than before, with its state there, and no other
pub record AreChanges (before after : Writes) (cells : List Cell) : Type 0 where
  pub sorted : IsTrue (is_sorted cells)
  pub changed : (cell : Cell) → Contains cells cell ↔ (((after (place_of cell)).state ≡ cell.state) × ((before (place_of cell)).state ≢ cell.state))

-- each of these cells has its state in a map
abbrev pub HaveStatesOf : Writes → List Cell → Type 0
HaveStatesOf map cells = (cell : Cell) → Contains cells cell → (map (place_of cell)).state ≡ cell.state

-- these are places with their states in a map, and among them is each place whose state afterwards is another one
pub record Watches (watched : List Cell) (before after : Writes) : Type 0 where
  pub states : HaveStatesOf before watched
  pub changed : (c : Place) → (after c).state ≢ (before c).state → Contains watched (cell_in before c)

-- the same, whatever map it is that has at each place the greater write of a map and of some writes
abbrev pub WatchesJoin : List Cell → Writes → Writes → Type 0
WatchesJoin watched before added = (after : Writes) → AreSame after (joined before added) → Watches watched before after
