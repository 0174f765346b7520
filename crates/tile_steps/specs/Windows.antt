-- Windows: what they are made of, what becomes of them, and their middle.
use Rattle.std.specs.Prelude.{◌≡◌, ℕ, ◌+◌, ◌<◌, ◌≤◌, ◌==◌, ◌&&◌, if◌then◌else◌, pos, List}
use Rattle.generations_rule.specs.Place.{Place, moved}
use Rattle.generations_rule.specs.Rule.{GenerationsRule}
use Rattle.generations_rule.specs.Evolution.{at}
use Rattle.bitplane_kernel.specs.Planes.{bit}
use Rattle.tile_steps.specs.declared.planes.RowPlane.{RowPlane}
use Rattle.tile_steps.specs.declared.tile.Tile.{Tile}
use Rattle.tile_steps.specs.declared.window.WindowPlane.{WindowPlane}
use Rattle.tile_steps.specs.Rows.{state_in}
use Rattle.tile_steps.specs.Steps.{window_state}
use Rattle.tile_steps.specs.Tiles.{tile_state}

-- the four rows are those from a row on
pub record IsTakenFrom (first : ℕ) (rows four : List ℕ) : Type 0 where
  pub same : (x y : ℕ) → x < 64 → y < 4 → bit four x y ≡ bit rows x (first + y)

-- four rows were put in the place of those from a row on
pub record IsPutAt (first : ℕ) (four old new : List ℕ) : Type 0 where
  pub here : (x y : ℕ) → x < 64 → y < 4 → bit new x (first + y) ≡ bit four x y
  pub below : (x y : ℕ) → y < first → bit new x y ≡ bit old x y
  pub above : (x y : ℕ) → first + 4 ≤ y → bit new x y ≡ bit old x y

-- the same in n planes, by states
pub record ArePutAt (n first : ℕ) (rows : List RowPlane) (old new : List WindowPlane) : Type 0 where
  pub here : (x y : ℕ) → x < 64 → y < 4 → window_state n new x (first + y) ≡ state_in n rows x y
  pub below : (x y : ℕ) → y < first → window_state n new x y ≡ window_state n old x y
  pub above : (x y : ℕ) → first + 4 ≤ y → window_state n new x y ≡ window_state n old x y

-- rows of 64 that are those of four squares of 32
pub record IsJoinedPlane (nw ne sw se rows : List ℕ) : Type 0 where
  pub north_west : (x y : ℕ) → x < 32 → y < 32 → bit rows x y ≡ bit nw x y
  pub north_east : (x y : ℕ) → x < 32 → y < 32 → bit rows (x + 32) y ≡ bit ne x y
  pub south_west : (x y : ℕ) → x < 32 → y < 32 → bit rows x (y + 32) ≡ bit sw x y
  pub south_east : (x y : ℕ) → x < 32 → y < 32 → bit rows (x + 32) (y + 32) ≡ bit se x y

pub record IsJoined (n : ℕ) (nw ne sw se : Tile n) (planes : List WindowPlane) : Type 0 where
  pub north_west : (x y : ℕ) → x < 32 → y < 32 → window_state n planes x y ≡ tile_state n nw x y
  pub north_east : (x y : ℕ) → x < 32 → y < 32 → window_state n planes (x + 32) y ≡ tile_state n ne x y
  pub south_west : (x y : ℕ) → x < 32 → y < 32 → window_state n planes x (y + 32) ≡ tile_state n sw x y
  pub south_east : (x y : ℕ) → x < 32 → y < 32 → window_state n planes (x + 32) (y + 32) ≡ tile_state n se x y

pub record IsMiddlePlane (rows middle : List ℕ) : Type 0 where
  pub same : (x y : ℕ) → x < 32 → y < 32 → bit middle x y ≡ bit rows (x + 16) (y + 16)

pub record IsMiddle (n : ℕ) (planes : List WindowPlane) (tile : Tile n) : Type 0 where
  pub same : (x y : ℕ) → x < 32 → y < 32 → tile_state n tile x y ≡ window_state n planes (x + 16) (y + 16)

-- the states that lie at least a margin from the edge of a window are the map's, the window's corner being here
abbrev pub AgreesOnWindow : ℕ → ℕ → (Place → ℕ) → Place → List WindowPlane → Type 0
AgreesOnWindow n margin f corner planes =
    (x y : ℕ) → margin ≤ x → x + margin < 64 → margin ≤ y → y + margin < 64 → window_state n planes x y ≡ f (moved corner (pos x) (pos y))

-- whatever map the window lies in, its inner cells are that map's g generations later
abbrev pub Advances : ℕ → GenerationsRule → ℕ → List WindowPlane → List WindowPlane → Type 0
Advances n r g old new =
    (f : Place → ℕ) (corner : Place) → ((c : Place) → f c < r.states) → AgreesOnWindow n 0 f corner old → AgreesOnWindow n g (at r f g) corner new

-- ---- one cell of a tile

-- the bit in a column of a row became a digit
pub record IsDigitSet (column row digit : ℕ) (old new : List ℕ) : Type 0 where
  pub set : (x y : ℕ) → x < 32 → y < 32 → bit new x y ≡ (if x == column && y == row then digit else bit old x y)
