-- What comes of drawing a square.
use Rattle.std.specs.Prelude.{◌≡◌, ℕ, IfOk, Err, Result}
use Rattle.square_store.specs.declared.fault.StoreFault.{StoreFault}
use Rattle.square_store.specs.declared.fault.StoreFault.TheVariants.{StoreFull}
use Rattle.square_store.specs.Grid.{Grid}
use Rattle.square_store.specs.Pieces.{AddsPiecesOfGrid}
use Rattle.square_store.specs.Squares.{Held, Draws}
use Rattle.square_store.specs.Store.{IsGrown}
use Rattle.stamped_tree.specs.declared.leaf_kind.PlaneLeaf.{PlaneLeaf}
use Rattle.stamped_tree.specs.Full.{IsFullStoreFor}
use Rattle.stamped_tree.specs.LeafKind.{plane_grid}
use Rattle.stamped_tree.specs.Plane.{HoldPlaneWrites}

-- the square of level k with the writes of f was drawn in a store, or was refused
pub record IsDrawn (old new : Held PlaneLeaf) (k : ℕ) (f : Grid) (result : Result ℕ StoreFault) : Type 0 where
  pub draws : IfOk result (Draws plane_grid 8 new k f)
  pub grows : IsGrown plane_grid 8 old new
  pub writes : HoldPlaneWrites old → HoldPlaneWrites new
  pub pieces : AddsPiecesOfGrid plane_grid 8 old new k f
  pub full : result ≡ Err StoreFull → IsFullStoreFor new k f
