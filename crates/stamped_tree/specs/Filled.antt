-- Squares over which areas were written.
use Rattle.std.specs.Prelude.{◌≡◌, ℕ, Bool, ◌==◌, ◌&&◌, Some}
use Rattle.std.specs.HashMap.{HashMap, get}
use Rattle.square_store.specs.Squares.{Held, IsAt, grid_at, Draws}
use Rattle.stamped_tree.specs.declared.leaf_kind.PlaneLeaf.{PlaneLeaf}
use Rattle.stamped_tree.specs.LeafKind.{plane_grid}
use Rattle.stamped_tree.specs.Area.{area_grid}
use Rattle.stamped_tree.specs.Overwriting.{overwritten_grid}
use Rattle.stamped_tree.specs.declared.area.Area.{Area}
use Rattle.stamped_tree.specs.declared.filled.AreaKey.{AreaKey}

-- at p stands the square of level k at q with the writes of an area over it
pub record IsFilled (s : Held PlaneLeaf) (stamp k : ℕ) (a : Area) (q p : ℕ) : Type 0 where
  pub stands : IsAt s k q
  pub draws : Draws plane_grid 8 s k (overwritten_grid (grid_at plane_grid 8 s k q) (area_grid stamp a)) p

-- when two keys are one
abbrev pub is_area_key : AreaKey → AreaKey → Bool
is_area_key x y = (x.level == y.level) && ((x.part == y.part) && ((x.area.left == y.area.left) && ((x.area.right == y.area.right) && ((x.area.top == y.area.top) && (x.area.bottom == y.area.bottom)))))

-- each square that is kept is that of its level, of the square that was there and of its area
pub record AreFilled {S : Type 0} (s : Held PlaneLeaf) (stamp : ℕ) (kept : HashMap AreaKey ℕ S) : Type 0 where
  pub each : (key : AreaKey) (p : ℕ) → get is_area_key kept key ≡ Some p → IsFilled s stamp key.level key.area key.part p
