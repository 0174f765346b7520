-- Why no cells are given.
use Rattle.std.specs.Prelude.{⊤, ◌≡◌, ◌⊎◌, ℕ, suc, ◌/◌, ◌^◌, ◌<◌, ◌≤◌, List, length, pos, Some, slice_get}
use Rattle.std.specs.List.{All, IsDistinct}
use Rattle.std.specs.Map.{keys_of}
use Rattle.generations_rule.specs.Place.{Place}
use Rattle.generations_rule.specs.Rule.{GenerationsRule}
use Rattle.generations_rule.specs.Evolution.{at}
use Rattle.pattern_cells.specs.declared.cell.Cell.{Cell}
use Rattle.tile_steps.specs.declared.fault.TileFault.{TileFault}
use Rattle.tile_steps.specs.declared.fault.TileFault.TheVariants.{Far, Full, Long, Memory}
use Rattle.tile_steps.specs.declared.tiles.Corner.{Corner}
use Rattle.tile_steps.specs.Tiles.{AllInside, Entries, HasTile, IsInTile, IsInside, Shows, is_corner}
use Rattle.tile_steps.specs.Causes.{IsTooLong, generations_by, origin_after}
use Rattle.tile_cells.specs.declared.later.CellsFault.{CellsFault}
use Rattle.tile_cells.specs.declared.later.CellsFault.TheVariants.{Tiles, Unsorted}
use Rattle.tile_cells.specs.Listing.{states_in}

-- ---- tiles of cells

-- each cell lies at 128 or more from the least and the greatest coordinate
abbrev pub AreInside : List Cell → Type 0
AreInside cells = All (λ cell. IsInside 128 (record { y = cell.y; x = cell.x })) cells

-- a cell of the list lies in the tile at a corner
pub record HasCell (cells : List Cell) (c : Corner) : Type 0 where
  pub index : ℕ
  pub cell : Cell
  pub there : slice_get cells index ≡ Some cell
  pub inside : IsInTile cell.x cell.y c

-- each tile is the first of the grid, or a cell of the list lies in it
abbrev pub AreTilesOf : (n : ℕ) → List Cell → Entries n → Type 0
AreTilesOf n cells tiles = (c : Corner) → HasTile n tiles c → ((c.x ≡ pos 0) × (c.y ≡ pos 0)) ⊎ HasCell cells c

-- why no tiles are made of cells; want of memory has no cause
abbrev pub IsNotFilled : List Cell → TileFault → Type 0
IsNotFilled cells Full = ⊥
IsNotFilled cells Far = AreInside cells → ⊥
IsNotFilled cells Long = ⊥
IsNotFilled cells Memory = ⊤

-- ---- their generations

-- at some step of a run of g generations something holds of all tiles that show the map then, of as many planes as states take
pub record HoldsOfMapAtStep (r : GenerationsRule) (f : Place → ℕ) (g : ℕ) (P : (n : ℕ) → Entries n → Type 0) : Type 0 where
  pub planes : ℕ
  pub fit : r.states ≤ 2 ^ planes
  pub step : ℕ
  pub of : step ≤ g / 16
  pub holds : (tiles : Entries planes) → Shows planes (origin_after 0 (suc step)) tiles (at r f (generations_by g step)) → P planes tiles

-- from tiles of the cells on, a run makes more windows than may be
pub record AreTooLong (r : GenerationsRule) (cells : List Cell) (g windows : ℕ) : Type 0 where
  pub planes : ℕ
  pub fit : r.states ≤ 2 ^ planes
  pub tiles : Entries planes
  pub shows : Shows planes 0 tiles (states_in cells)
  pub of : AreTilesOf planes cells tiles
  pub once : IsDistinct is_corner (keys_of tiles)
  pub long : IsTooLong planes r g windows tiles

-- why tiles do not tell the cells of a list g generations later; want of memory has no cause
abbrev pub IsNotRun : GenerationsRule → List Cell → ℕ → ℕ → TileFault → Type 0
IsNotRun r cells g windows Full = HoldsOfMapAtStep r (states_in cells) g (λ n tiles. 65536 < length tiles)
IsNotRun r cells g windows Far = (AreInside cells → ⊥) ⊎ HoldsOfMapAtStep r (states_in cells) g (λ n tiles. AllInside n tiles → ⊥)
IsNotRun r cells g windows Long = AreTooLong r cells g windows
IsNotRun r cells g windows Memory = ⊤

-- nor has a list that came out of order
abbrev pub IsRefused : GenerationsRule → List Cell → ℕ → ℕ → CellsFault → Type 0
IsRefused r cells g windows (Tiles fault) = IsNotRun r cells g windows fault
IsRefused r cells g windows Unsorted = ⊤
