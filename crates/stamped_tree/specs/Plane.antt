-- Planes as squares of writes, each once, and which of them is the root.
use Rattle.std.specs.Prelude.{◌≡◌, ℕ, ◌<◌, ◌-◌, ℤ, ◌-ℤ◌, nat_abs, List, IsTrue, if◌then◌else◌}
use Rattle.stamped_writes.specs.Write.{unwritten, Writes, AreSame}
use Rattle.edit_stamps.specs.Plane.{least, is_in_plane}
use Rattle.edit_stamps.specs.PlaneMap.{is_plane_write}
use Rattle.leaf_merge_lanes.specs.Leaf.{write_on_leaf}
use Rattle.stamped_writes.specs.declared.write.Write.{Write}
use Rattle.square_store.specs.Grid.{Grid}
use Rattle.square_store.specs.Squares.{Held, side_at, IsAt, grid_at, four_grid, Draws}
use Rattle.square_store.specs.Pieces.{HoldsPiecesOfGrid}
use Rattle.square_store.specs.Store.{IsGrown, IsAdded, IsFullFor, IsRoomFor}
use Rattle.square_store.specs.Seen.{AreAt}
use Rattle.stamped_tree.specs.declared.leaf_kind.PlaneLeaf.{PlaneLeaf}
use Rattle.stamped_tree.specs.LeafKind.{plane_grid}

-- what contracts see of a plane: the squares that it stores, with its room, and the part that is the whole plane
pub record StampedPlane : Type 0 where
  pub store : Held PlaneLeaf
  pub root : ℕ

-- ---- squares by their parts

-- a square of level k, from 3 on, has 2^k columns and rows: it is so many levels above a leaf, of level 3
abbrev pub above_leaf : ℕ → ℕ
above_leaf level = level - 3

-- a square of a level stands at a part; a blank stands for every level
abbrev pub IsPart : Held PlaneLeaf → ℕ → ℕ → Type 0
IsPart s level part = IsAt s (above_leaf level) part

-- squares of the level below stand at four parts
abbrev pub AreQuarterParts : Held PlaneLeaf → ℕ → List ℕ → Type 0
AreQuarterParts s level parts = AreAt s (above_leaf level - 1) parts

-- the writes of a leaf, by column and row
abbrev pub grid_of_leaf : List Write → Grid
grid_of_leaf writes = plane_grid (record { leaf = writes })

-- the writes of the square of a level whose four parts these are: NW, NE, SW and SE
abbrev pub grid_of_parts : Held PlaneLeaf → ℕ → List ℕ → Grid
grid_of_parts s level parts = four_grid plane_grid 8 s (above_leaf level - 1) parts

-- a square of a level with the writes of f stands at a part
abbrev pub DrawsPart : Held PlaneLeaf → ℕ → Grid → ℕ → Type 0
DrawsPart s level f part = Draws plane_grid 8 s (above_leaf level) f part

-- the store is as it was, or such a square that was not there is new
abbrev pub IsPartAdded : (old new : Held PlaneLeaf) → ℕ → Grid → ℕ → Type 0
IsPartAdded old new level f part = IsAdded plane_grid 8 old new (above_leaf level) f part

-- the store is full and has no such square
abbrev pub IsFullForPart : Held PlaneLeaf → ℕ → Grid → Type 0
IsFullForPart s level f = IsFullFor plane_grid 8 s (above_leaf level) f

-- the store has room and no such square
abbrev pub HasRoomForPart : Held PlaneLeaf → ℕ → Grid → Type 0
HasRoomForPart s level f = IsRoomFor plane_grid 8 s (above_leaf level) f

-- ---- the map

-- how many columns a coordinate is from the left edge of the plane, or rows from the upper one
abbrev pub from_edge : ℤ → ℕ
from_edge n = nat_abs (n -ℤ least)

-- what is read of a plane at each place: the root's write in its column and row, and nothing outside the plane
abbrev pub map_of : StampedPlane → Writes
map_of p c = if is_in_plane c then grid_at plane_grid 8 p.store (above_leaf 31) p.root (from_edge c.x) (from_edge c.y) else unwritten

-- ---- what holds of planes

-- each write in the first n columns and rows has a stamp, or nothing was written there
abbrev pub HasPlaneWrites : ℕ → Grid → Type 0
HasPlaneWrites n f = (u v : ℕ) → u < n → v < n → IsTrue (is_plane_write (f u v))

-- the same of the 64 writes of a leaf
abbrev pub ArePlaneWrites : List Write → Type 0
ArePlaneWrites writes = (i : ℕ) → i < 64 → IsTrue (is_plane_write (write_on_leaf writes i))

-- each square, of whatever level it stands for, has writes of a plane
abbrev pub HoldPlaneWrites : Held PlaneLeaf → Type 0
HoldPlaneWrites s = (k p : ℕ) → IsAt s k p → HasPlaneWrites (side_at 8 k) (grid_at plane_grid 8 s k p)

-- what holds of every plane
pub record IsPlane (p : StampedPlane) : Type 0 where
  pub root : IsPart p.store 31 p.root
  pub writes : HoldPlaneWrites p.store

-- squares were added at most, and the map is as it was
pub record HasGrown (old new : StampedPlane) : Type 0 where
  pub store : IsGrown plane_grid 8 old.store new.store
  pub root : new.root ≡ old.root
  pub map : AreSame (map_of new) (map_of old)

-- the plane whose root is another part of the same store
abbrev pub rooted : StampedPlane → ℕ → StampedPlane
rooted p part = record { store = p.store; root = part }

-- a plane stores the root, and the squares that the root is cut into, and no other
abbrev pub StoresRootAlone : StampedPlane → Type 0
StoresRootAlone p = HoldsPiecesOfGrid plane_grid 8 p.store (above_leaf 31) (grid_at plane_grid 8 p.store (above_leaf 31) p.root)
