-- What contracts see of a square.
use Rattle.std.specs.Prelude.{ℕ}
use Rattle.square_store.specs.Squares.{Held}
use Rattle.stamped_tree.specs.declared.leaf_kind.PlaneLeaf.{PlaneLeaf}

-- a part of the squares that a plane stores
pub record PlaneSquare : Type 0 where
  pub store : Held PlaneLeaf
  pub part : ℕ
