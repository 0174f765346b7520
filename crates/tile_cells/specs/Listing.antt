-- Cells that are listed of a map of states, and of the tiles that show it.
use Rattle.std.specs.Prelude.{◌≡◌, ℕ, ◌<◌, ◌≤◌, pos, true, is_some, List, Contains, length, Option, Some, slice_get, unwrap_or}
use Rattle.std.specs.List.{All}
use Rattle.generations_rule.specs.Place.{Place, moved}
use Rattle.pattern_cells.specs.declared.cell.Cell.{Cell}
use Rattle.pattern_cells.specs.Cells.{are_nonzero, is_sorted}
use Rattle.edit_stamps.specs.Edit.{listed}
use Rattle.tile_steps.specs.declared.tile.Tile.{Tile}
use Rattle.tile_steps.specs.declared.tiles.Corner.{Corner}
use Rattle.tile_steps.specs.Tiles.{Entries, IsInside, ShowsSomewhere, ShowsTile, place_of, tile_of}

-- the state that is listed at a place, 0 where none is
abbrev pub states_in : List Cell → Place → ℕ
states_in cells c = unwrap_or (listed cells c) 0

-- each cell that is listed has the map's state
pub record AreOf (f : Place → ℕ) (cells : List Cell) : Type 0 where
  pub right : (c : Place) (s : ℕ) → listed cells c ≡ Some s → s ≡ f c

-- these places were listed too, and those that had been still are
pub record Lists (f : Place → ℕ) (IsHere : Place → Type 0) (old new : List Cell) : Type 0 where
  pub are_of : AreOf f new
  pub kept : (c : Place) → states_in old c ≡ f c → states_in new c ≡ f c
  pub here : (c : Place) → IsHere c → states_in new c ≡ f c

-- the sorted list of the cells of a map that are not dead
pub record IsListOf (f : Place → ℕ) (cells : List Cell) : Type 0 where
  pub sorted : is_sorted cells ≡ true
  pub alive : are_nonzero cells ≡ true
  pub states : (c : Place) → states_in cells c ≡ f c

-- the list has the states of whatever map the tiles show
abbrev pub ListsAll : (n : ℕ) → Entries n → List Cell → Type 0
ListsAll n tiles cells = (f : Place → ℕ) → ShowsSomewhere n tiles f → (c : Place) → states_in cells c ≡ f c

-- ---- rows, bands

-- the place of a cell of a tile
abbrev pub tile_cell : Corner → ℕ → ℕ → Place
tile_cell corner x y = moved (place_of corner) (pos x) (pos y)

-- a place in the first columns of a row of a tile
pub record IsInRow (corner : Corner) (row columns : ℕ) (c : Place) : Type 0 where
  pub column : ℕ
  pub within : column < columns
  pub there : c ≡ tile_cell corner column row

-- these columns of a row were listed of whatever map the tile shows
abbrev pub ListsRow : (n : ℕ) → Option (Tile n) → Corner → ℕ → ℕ → List Cell → List Cell → Type 0
ListsRow n tile corner row columns old new = (f : Place → ℕ) → ShowsTile n tile f (place_of corner) → AreOf f old → Lists f (IsInRow corner row columns) old new

-- a place in a row of the tiles of a band
pub record IsInBandRow (corners : List Corner) (first past row : ℕ) (c : Place) : Type 0 where
  pub index : ℕ
  pub corner : Corner
  pub low : first ≤ index
  pub high : index < past
  pub there : slice_get corners index ≡ Some corner
  pub inside : IsInRow corner row 32 c

-- a place in the first rows of the tiles of a band
pub record IsInBand (corners : List Corner) (first past rows : ℕ) (c : Place) : Type 0 where
  pub row : ℕ
  pub within : row < rows
  pub inside : IsInBandRow corners first past row c

-- at each of these corners the tiles show the map
abbrev pub ShowAt : (n : ℕ) → Entries n → List Corner → (Place → ℕ) → Type 0
ShowAt n tiles corners f = (i : ℕ) (corner : Corner) → slice_get corners i ≡ Some corner → ShowsTile n (tile_of n tiles corner) f (place_of corner)

abbrev pub ListsBandRow : (n : ℕ) → Entries n → List Corner → ℕ → ℕ → ℕ → List Cell → List Cell → Type 0
ListsBandRow n tiles corners first past row old new = (f : Place → ℕ) → ShowAt n tiles corners f → AreOf f old → Lists f (IsInBandRow corners first past row) old new

abbrev pub ListsBand : (n : ℕ) → Entries n → List Corner → ℕ → ℕ → ℕ → List Cell → List Cell → Type 0
ListsBand n tiles corners first past rows old new = (f : Place → ℕ) → ShowAt n tiles corners f → AreOf f old → Lists f (IsInBand corners first past rows) old new

-- the tiles from the first to the next one were listed, and so all, where the last of the band is the last of all
pub record IsListedTo (n : ℕ) (tiles : Entries n) (corners : List Corner) (first past : ℕ) (old new : List Cell) (next : ℕ) : Type 0 where
  pub lists : ListsBand n tiles corners first next 32 old new
  pub before : next ≤ past
  pub whole : past ≡ length corners → next ≡ length corners

-- the corners of all tiles, in some order
pub record AreCornersOf (n : ℕ) (tiles : Entries n) (corners : List Corner) : Type 0 where
  pub inside : All (IsInside 128) corners
  pub there : All (λ c. is_some (tile_of n tiles c) ≡ true) corners
  pub all : (i : ℕ) (c : Corner) (tile : Tile n) → slice_get tiles i ≡ Some (c, tile) → Contains corners c
