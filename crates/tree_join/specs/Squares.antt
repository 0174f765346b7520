-- Two squares of one level, which may stand in different stores: their order, and their join.
use Rattle.std.specs.Prelude.{◌≡◌, ℕ, ◌<◌, ◌-◌, IsTrue, List, length}
use Rattle.stamped_writes.specs.Write.{at_most, greater}
use Rattle.square_store.specs.Grid.{Grid, AreSameWithin}
use Rattle.square_store.specs.Squares.{Held, side_at, IsAt, grid_at, four_grid, Draws}
use Rattle.square_store.specs.Seen.{AreAt}
use Rattle.stamped_tree.specs.LeafKind.{plane_grid}
use Rattle.stamped_tree.specs.declared.leaf_kind.PlaneLeaf.{PlaneLeaf}

-- in the first n columns and rows each write is at most the other's
abbrev pub AreAtMostWithin : ℕ → Grid → Grid → Type 0
AreAtMostWithin n f g = (u v : ℕ) → u < n → v < n → IsTrue (at_most (f u v) (g u v))

-- the square of level k at a in the one store has the same writes as that at b in the other
abbrev pub AreSameSquares : (s t : Held PlaneLeaf) → (k a b : ℕ) → Type 0
AreSameSquares s t k a b = AreSameWithin (side_at 8 k) (grid_at plane_grid 8 s k a) (grid_at plane_grid 8 t k b)

-- each write of the square of level k at a in the one store is at most that of the square at b in the other
abbrev pub AreSquaresAtMost : (s t : Held PlaneLeaf) → (k a b : ℕ) → Type 0
AreSquaresAtMost s t k a b = AreAtMostWithin (side_at 8 k) (grid_at plane_grid 8 s k a) (grid_at plane_grid 8 t k b)

-- four parts are the quarters of the square of level k at p: NW, NE, SW and SE
pub record AreQuarters (s : Held PlaneLeaf) (k p : ℕ) (parts : List ℕ) : Type 0 where
  pub four : length parts ≡ 4
  pub stand : AreAt s (k - 1) parts
  pub same : AreSameWithin (side_at 8 k) (grid_at plane_grid 8 s k p) (four_grid plane_grid 8 s (k - 1) parts)

-- ---- joins

-- the greater of two squares' writes, by column and row
abbrev pub joined_grid : Grid → Grid → Grid
joined_grid f g u v = greater (f u v) (g u v)

-- the join of the writes of the square of level k at a in the one store and of that at b in the other
abbrev pub join_grid : (here there : Held PlaneLeaf) → (k a b : ℕ) → Grid
join_grid here there k a b = joined_grid (grid_at plane_grid 8 here k a) (grid_at plane_grid 8 there k b)

-- at p in the one store stands the join of its square of level k at a with the other's at b
pub record IsSquareJoin (here there : Held PlaneLeaf) (k a b p : ℕ) : Type 0 where
  pub stands : IsAt here k a
  pub draws : Draws plane_grid 8 here k (join_grid here there k a b) p
