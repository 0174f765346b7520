-- A store that is full, where a square is wanted.
use Rattle.std.specs.Prelude.{ℕ}
use Rattle.square_store.specs.Grid.{Grid}
use Rattle.square_store.specs.Squares.{Held}
use Rattle.square_store.specs.Store.{IsStore, IsFullFor}
use Rattle.stamped_tree.specs.declared.leaf_kind.PlaneLeaf.{PlaneLeaf}
use Rattle.stamped_tree.specs.LeafKind.{IsPlaneLeaf, plane_grid}

-- the store is full and has no square of level k with the writes of f, and it is one of which the laws of stores hold
pub record IsFullStoreFor (s : Held PlaneLeaf) (k : ℕ) (f : Grid) : Type 0 where
  pub full : IsFullFor plane_grid 8 s k f
  pub store : IsStore plane_grid 8 IsPlaneLeaf s
