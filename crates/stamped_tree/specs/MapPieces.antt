-- The squares that the plane's square of a map is cut into.
use Rattle.std.specs.Prelude.{pos}
use Rattle.generations_rule.specs.Place.{moved}
use Rattle.stamped_writes.specs.Write.{Writes}
use Rattle.square_store.specs.Grid.{Grid}
use Rattle.square_store.specs.Store.{IsFullFor}
use Rattle.square_store.specs.Pieces.{AddsPiecesOfGrid}
use Rattle.stamped_tree.specs.LeafKind.{plane_grid}
use Rattle.stamped_tree.specs.Plane.{StampedPlane, above_leaf}
use Rattle.stamped_tree.specs.Tree.{plane_corner}

-- the plane's square of a map: its writes by columns and rows from the upper left corner of the plane
abbrev pub square_of : Writes → Grid
square_of map u v = map (moved plane_corner (pos u) (pos v))

-- each square that is new is the plane's square of a map, or one of those that it is cut into
abbrev pub AddsPiecesOfMap : (old new : StampedPlane) → Writes → Type 0
AddsPiecesOfMap old new map = AddsPiecesOfGrid plane_grid 8 old.store new.store (above_leaf 31) (square_of map)

-- the store is full, and the plane's square of a map is not there
abbrev pub IsFullForMap : StampedPlane → Writes → Type 0
IsFullForMap p map = IsFullFor plane_grid 8 p.store (above_leaf 31) (square_of map)
