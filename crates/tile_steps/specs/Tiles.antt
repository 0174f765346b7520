-- Tiles of states, where they lie, and the map of states that they make.
use Rattle.std.specs.Prelude.{◌≡◌, ◌⊎◌, ℕ, ◌+◌, ◌*◌, ◌-◌, ◌^◌, ◌<◌, ◌≤◌, ◌&&◌, Bool, ℤ, pos, negsuc, ◌+ℤ◌, ◌≤ℤ◌, List, [], ◌∷◌, ◌++◌, length, cond, is_some, true, slice_get, slice_index_or, Option, Some, None, if◌then◌else◌}
use Rattle.std.specs.Ordering.{int_eq}
use Rattle.std.specs.List.{All, IsDistinct}
use Rattle.std.specs.Map.{keys_of, lookup}
use Rattle.generations_rule.specs.Place.{Place, moved, at_place, is_place}
use Rattle.generations_rule.specs.Rule.{GenerationsRule}
use Rattle.generations_rule.specs.Evolution.{at}
use Rattle.bitplane_kernel.specs.Planes.{number, bit}
use Rattle.tile_steps.specs.declared.tile.TilePlane.{TilePlane}
use Rattle.tile_steps.specs.declared.tile.Tile.{Tile}
use Rattle.tile_steps.specs.declared.tiles.Corner.{Corner}

-- plane p of a tile
abbrev pub tile_plane : List TilePlane → ℕ → List ℕ
tile_plane planes p = (slice_index_or planes p (record { rows = [] })).rows

-- the state in column x of row y that the lowest n planes hold
abbrev pub planes_state : ℕ → List TilePlane → ℕ → ℕ → ℕ
planes_state n planes x y = number n (λ p. bit (tile_plane planes p) x y)

-- the state in column x of row y of a tile
abbrev pub tile_state : (n : ℕ) → Tile n → ℕ → ℕ → ℕ
tile_state n tile x y = planes_state n tile.planes x y

-- where a tile's first column and row lie
abbrev pub place_of : Corner → Place
place_of c = at_place c.x c.y

abbrev pub corner_from : Corner → ℤ → ℤ → Corner
corner_from c right down = record { y = c.y +ℤ down; x = c.x +ℤ right }

-- when two corners are one
abbrev pub is_corner : Corner → Corner → Bool
is_corner a b = int_eq a.y b.y && int_eq a.x b.x

-- tiles with their corners
abbrev pub Entries : ℕ → Type 0
Entries n = List (Corner × Tile n)

-- the tile at a corner
abbrev pub tile_of : (n : ℕ) → Entries n → Corner → Option (Tile n)
tile_of n entries c = lookup (is_corner c) entries

-- the state in a column and a row of a tile, 0 where there is none
abbrev pub state_of : (n : ℕ) → Option (Tile n) → ℕ → ℕ → ℕ
state_of n (Some tile) x y = tile_state n tile x y
state_of n None x y = 0

-- the map has the states of a tile whose first cell lies here
pub record ShowsTile (n : ℕ) (tile : Option (Tile n)) (f : Place → ℕ) (here : Place) : Type 0 where
  pub shows : (x y : ℕ) → x < 32 → y < 32 → state_of n tile x y ≡ f (moved here (pos x) (pos y))

-- a coordinate is one of a grid: an origin and multiples of 32
pub record IsOnGrid (origin : ℕ) (c : ℤ) : Type 0 where
  pub ups : ℕ
  pub downs : ℕ
  pub is : (c +ℤ pos (32 * downs)) ≡ pos (32 * ups + origin)

-- a corner is one of a grid
pub record IsCornerOn (origin : ℕ) (c : Corner) : Type 0 where
  pub column : IsOnGrid origin c.x
  pub row : IsOnGrid origin c.y

-- every tile is at a corner of a grid
abbrev pub AreOnGrid : (n : ℕ) → ℕ → Entries n → Type 0
AreOnGrid n origin tiles = (c : Corner) (tile : Tile n) → tile_of n tiles c ≡ Some tile → IsCornerOn origin c

-- the tiles are at corners of a grid, and there they show the map
pub record Shows (n origin : ℕ) (tiles : Entries n) (f : Place → ℕ) : Type 0 where
  pub on : AreOnGrid n origin tiles
  pub each : (c : Corner) → IsOnGrid origin c.x → IsOnGrid origin c.y → ShowsTile n (tile_of n tiles c) f (place_of c)

-- the two grids
abbrev pub IsOrigin : ℕ → Type 0
IsOrigin origin = (origin ≡ 0) ⊎ (origin ≡ 16)

-- a corner lies so far inside of 32 bits
pub record IsInside (slack : ℕ) (c : Corner) : Type 0 where
  pub left : negsuc (2 ^ 31 - 1 - slack) ≤ℤ c.x
  pub right : c.x ≤ℤ pos (2 ^ 31 - 1 - slack)
  pub above : negsuc (2 ^ 31 - 1 - slack) ≤ℤ c.y
  pub below : c.y ≤ℤ pos (2 ^ 31 - 1 - slack)

-- every tile does
abbrev pub AllInside : (n : ℕ) → Entries n → Type 0
AllInside n tiles = All (λ e. IsInside 128 e.0) tiles

-- whatever map the old tiles show on a grid, the new ones show it g generations later on the other
abbrev pub AreLater : (n : ℕ) → GenerationsRule → ℕ → Entries n → Entries n → Type 0
AreLater n r g old new =
    (origin : ℕ) (f : Place → ℕ) → IsOrigin origin → ((c : Place) → f c < r.states) → Shows n origin old f → Shows n (16 - origin) new (at r f g)

-- the tiles show the map on one of the two grids
pub record ShowsSomewhere (n : ℕ) (tiles : Entries n) (f : Place → ℕ) : Type 0 where
  pub origin : ℕ
  pub is : IsOrigin origin
  pub shows : Shows n origin tiles f

-- whatever map the old tiles show on one of the two grids, the new ones show it g generations later on one of them
abbrev pub IsEvolved : (n : ℕ) → GenerationsRule → ℕ → Entries n → Entries n → Type 0
IsEvolved n r g old new =
    (f : Place → ℕ) → ((c : Place) → f c < r.states) → ShowsSomewhere n old f → ShowsSomewhere n new (at r f g)

-- ---- one tile of the other grid

-- the four tiles that overlap one of the other grid show the map
pub record ShowsAround (n : ℕ) (tiles : Entries n) (f : Place → ℕ) (c : Corner) : Type 0 where
  pub north_west : ShowsTile n (tile_of n tiles (corner_from c (negsuc 15) (negsuc 15))) f (place_of (corner_from c (negsuc 15) (negsuc 15)))
  pub north_east : ShowsTile n (tile_of n tiles (corner_from c (pos 16) (negsuc 15))) f (place_of (corner_from c (pos 16) (negsuc 15)))
  pub south_west : ShowsTile n (tile_of n tiles (corner_from c (negsuc 15) (pos 16))) f (place_of (corner_from c (negsuc 15) (pos 16)))
  pub south_east : ShowsTile n (tile_of n tiles (corner_from c (pos 16) (pos 16))) f (place_of (corner_from c (pos 16) (pos 16)))

-- it is what these make of it
abbrev pub IsRight : (n : ℕ) → GenerationsRule → ℕ → Entries n → Option (Tile n) → Corner → Type 0
IsRight n r g tiles tile c =
    (f : Place → ℕ) → ((place : Place) → f place < r.states) → ShowsAround n tiles f c → ShowsTile n tile (at r f g) (place_of c)

-- every tile that is there is
abbrev pub AllRight : (n : ℕ) → GenerationsRule → ℕ → Entries n → Entries n → Type 0
AllRight n r g tiles new = (c : Corner) (tile : Tile n) → tile_of n new c ≡ Some tile → IsRight n r g tiles (Some tile) c

-- what stands at a corner is right, be it no tile
abbrev pub IsSettled : (n : ℕ) → GenerationsRule → ℕ → Entries n → Entries n → Corner → Type 0
IsSettled n r g tiles new c = IsRight n r g tiles (tile_of n new c) c

-- the four of the other grid that overlap a tile are settled
pub record AreSettledAround (n : ℕ) (r : GenerationsRule) (g : ℕ) (tiles new : Entries n) (c : Corner) : Type 0 where
  pub north_west : IsSettled n r g tiles new (corner_from c (negsuc 15) (negsuc 15))
  pub north_east : IsSettled n r g tiles new (corner_from c (pos 16) (negsuc 15))
  pub south_west : IsSettled n r g tiles new (corner_from c (negsuc 15) (pos 16))
  pub south_east : IsSettled n r g tiles new (corner_from c (pos 16) (pos 16))

-- where the tiles are on one of the two grids, the corner is on the other
abbrev pub IsOnOtherGrid : (n : ℕ) → Entries n → Corner → Type 0
IsOnOtherGrid n tiles c = (origin : ℕ) → IsOrigin origin → AreOnGrid n origin tiles → IsCornerOn (16 - origin) c

-- some cell of a tile is not dead
pub record IsAlive (n : ℕ) (tile : Tile n) : Type 0 where
  pub column : ℕ
  pub row : ℕ
  pub in_columns : column < 32
  pub in_rows : row < 32
  pub alive : tile_state n tile column row ≡ 0 → ⊥

-- the new tiles are right, on the other grid, not dead, each at a corner of its own, few enough and inside
pub record IsUnderWay (n : ℕ) (r : GenerationsRule) (g room : ℕ) (tiles new : Entries n) : Type 0 where
  pub right : AllRight n r g tiles new
  pub grid : (c : Corner) (tile : Tile n) → tile_of n new c ≡ Some tile → IsOnOtherGrid n tiles c
  pub alive : (c : Corner) (tile : Tile n) → tile_of n new c ≡ Some tile → IsAlive n tile
  pub once : IsDistinct is_corner (keys_of new)
  pub few : length new ≤ room
  pub inside : AllInside n new

-- what was settled is settled
abbrev pub KeepsSettled : (n : ℕ) → GenerationsRule → ℕ → Entries n → Entries n → Entries n → Type 0
KeepsSettled n r g tiles old new = (c : Corner) → IsSettled n r g tiles old c → IsSettled n r g tiles new c

-- the first tiles are settled around
pub record AreSettledBelow (n : ℕ) (r : GenerationsRule) (g room : ℕ) (tiles new : Entries n) (index : ℕ) : Type 0 where
  pub way : IsUnderWay n r g room tiles new
  pub around : (i : ℕ) (c : Corner) (tile : Tile n) → i < index → slice_get tiles i ≡ Some (c, tile) → AreSettledAround n r g tiles new c

-- a tile was put at a corner where none was
pub record IsPut (n : ℕ) (old new : Entries n) (c : Corner) (tile : Tile n) : Type 0 where
  pub found : (q : Corner) → tile_of n new q ≡ cond (is_corner c q) (Some tile) (tile_of n old q)
  pub last : new ≡ old ++ (c, tile) ∷ []

-- ---- cells that are put

-- a map with another state at a place
abbrev pub with_state : (Place → ℕ) → Place → ℕ → Place → ℕ
with_state f p state c = if is_place p c then state else f c

-- there is a tile at a corner
abbrev pub HasTile : (n : ℕ) → Entries n → Corner → Type 0
HasTile n tiles c = is_some (tile_of n tiles c) ≡ true

-- a number of 32 columns or rows from the first of a grid's square on
pub record IsSplit (n first : ℤ) (offset : ℕ) : Type 0 where
  pub within : offset < 32
  pub there : n ≡ first +ℤ pos offset
  pub grid : IsOnGrid 0 first

-- a cell lies in the tile at a corner of the grid of the origin
pub record IsInTile (x y : ℤ) (c : Corner) : Type 0 where
  pub column : ℕ
  pub row : ℕ
  pub in_columns : IsSplit x c.x column
  pub in_rows : IsSplit y c.y row
