-- What is stored where an edit is written over a square, quarter by quarter.
use Rattle.std.proofs.Common.{◌≡◌, ℕ, ◌-◌, ◌<◌, List, inl, inr, refl, sym, ap, ◌∙◌, arith, Result, Ok, Err}
use Rattle.std.specs.Prelude.{slice_index_or, IsErrAnd}
use Rattle.edit_stamps.specs.Edit.{PlaneEdit, writes_of}
use Rattle.square_store.specs.Grid.{Grid, AreSameWithin}
use Rattle.square_store.specs.Squares.{Held, side_at, grid_at, Draws}
use Rattle.square_store.specs.Store.{IsGrown}
use Rattle.square_store.specs.Seen.{AreQuartersAt}
use Rattle.square_store.specs.Pieces.{grid_from, IsQuarterCorner, AddsPiecesOfGrid}
use Rattle.square_store.proofs.Drawn.{draws_as, draws_later, grown_more}
use Rattle.square_store.proofs.Made.{full_as}
use Rattle.square_store.proofs.PieceLaws.{adds_quarter, adds_more, full_quarter}
use Rattle.square_store.specs.declared.fault.StoreFault.{StoreFault}
use Rattle.square_store.specs.declared.fault.StoreFault.TheVariants.{StoreFull}
use Rattle.stamped_tree.specs.declared.leaf_kind.PlaneLeaf.{PlaneLeaf}
use Rattle.stamped_tree.specs.declared.area.Area.{Area}
use Rattle.stamped_tree.specs.declared.cells.ListedCell.{ListedCell}
use Rattle.stamped_tree.specs.Area.{IsAreaOfPart}
use Rattle.stamped_tree.specs.Drawing.{cells_in, drawn_grid}
use Rattle.stamped_tree.specs.Drawn.{IsDrawn}
use Rattle.stamped_tree.specs.Full.{IsFullStoreFor}
use Rattle.stamped_tree.specs.LeafKind.{IsPlaneLeaf, plane_grid}
use Rattle.stamped_tree.specs.MapPieces.{square_of}
use Rattle.stamped_tree.specs.OnPlane.{plane_writes}
use Rattle.stamped_tree.specs.Overwriting.{overwrite, overwritten, overwritten_grid}
use Rattle.stamped_tree.specs.Plane.{StampedPlane, map_of, HoldPlaneWrites}
use Rattle.stamped_tree.proofs.Maps.{root_read}
use Rattle.stamped_tree.proofs.Overwriting.{over_nw, over_ne, over_sw, over_se}

-- a full store has not the whole where it has not a quarter
pub quarter_full : (s : Held PlaneLeaf) (k column row : ℕ) (a f : Grid) → 0 < k → IsQuarterCorner (side_at 8 (k - 1)) column row → AreSameWithin (side_at 8 (k - 1)) a (grid_from column row f) → IsFullStoreFor s (k - 1) a → IsFullStoreFor s k f
quarter_full s k column row a f some corner same full = record {
  full = full_quarter plane_grid 8 IsPlaneLeaf s full.store k column row a f some corner same full.full;
  store = full.store;
}

-- nor any square with the same writes as one that it has not
pub same_full : (s : Held PlaneLeaf) (k : ℕ) (f g : Grid) → AreSameWithin (side_at 8 k) f g → IsFullStoreFor s k f → IsFullStoreFor s k g
same_full s k f g same full = record {
  full = full_as plane_grid 8 k g f (λ u v hu hv. sym (same u v hu hv)) s full.full;
  store = full.store;
}

-- the corners of the quarters, where a half is so long
module _ (k n : ℕ) (is : n ≡ side_at 8 (k - 1)) where
  pub at_nw : IsQuarterCorner (side_at 8 (k - 1)) 0 0
  at_nw = record { left = inl refl; upper = inl refl }

  pub at_ne : IsQuarterCorner (side_at 8 (k - 1)) n 0
  at_ne = record { left = inr is; upper = inl refl }

  pub at_sw : IsQuarterCorner (side_at 8 (k - 1)) 0 n
  at_sw = record { left = inl refl; upper = inr is }

  pub at_se : IsQuarterCorner (side_at 8 (k - 1)) n n
  at_se = record { left = inr is; upper = inr is }

-- a quarter of a square that an edit is written over, drawn in a store that grew by then
module _ (s : Held PlaneLeaf) (k p : ℕ) (parts : List ℕ) (some : 0 < k) (cut : AreQuartersAt plane_grid 8 s k p parts) (n : ℕ) (is : n ≡ side_at 8 (k - 1))
    (t : Held PlaneLeaf) (grown : IsGrown plane_grid 8 s t) (stamp : ℕ) (a x : Area) (cells its : List ListedCell) (w : ℕ) where
  near : (m : ℕ) → m < side_at 8 (k - 1) → m < n
  near m h = omega (arith, h, is)

  pub same_nw : its ≡ cells_in cells 0 0 n → IsAreaOfPart a 0 0 n x → AreSameWithin (side_at 8 (k - 1)) (drawn_grid t (k - 1) (slice_index_or parts 0 w) stamp x its) (grid_from 0 0 (drawn_grid s k p stamp a cells))
  same_nw e part u v hu hv = rw e (over_nw s k p parts some cut n is t grown stamp a x cells w part u v (near u hu) (near v hv))

  pub same_ne : its ≡ cells_in cells n 0 n → IsAreaOfPart a n 0 n x → AreSameWithin (side_at 8 (k - 1)) (drawn_grid t (k - 1) (slice_index_or parts 1 w) stamp x its) (grid_from n 0 (drawn_grid s k p stamp a cells))
  same_ne e part u v hu hv = rw e (over_ne s k p parts some cut n is t grown stamp a x cells w part u v (near u hu) (near v hv))

  pub same_sw : its ≡ cells_in cells 0 n n → IsAreaOfPart a 0 n n x → AreSameWithin (side_at 8 (k - 1)) (drawn_grid t (k - 1) (slice_index_or parts 2 w) stamp x its) (grid_from 0 n (drawn_grid s k p stamp a cells))
  same_sw e part u v hu hv = rw e (over_sw s k p parts some cut n is t grown stamp a x cells w part u v (near u hu) (near v hv))

  pub same_se : its ≡ cells_in cells n n n → IsAreaOfPart a n n n x → AreSameWithin (side_at 8 (k - 1)) (drawn_grid t (k - 1) (slice_index_or parts 3 w) stamp x its) (grid_from n n (drawn_grid s k p stamp a cells))
  same_se e part u v hu hv = rw e (over_se s k p parts some cut n is t grown stamp a x cells w part u v (near u hu) (near v hv))

-- ---- a square that is drawn quarter by quarter

-- what holds before the square itself is drawn
pub record IsPartly (old new : Held PlaneLeaf) (k : ℕ) (f : Grid) (result : Result ℕ StoreFault) : Type 0 where
  pub grows : IsGrown plane_grid 8 old new
  pub writes : HoldPlaneWrites old → HoldPlaneWrites new
  pub pieces : AddsPiecesOfGrid plane_grid 8 old new k f
  pub full : result ≡ Err StoreFull → IsFullStoreFor new k f

pub of_quarter : (old new : Held PlaneLeaf) (k column row : ℕ) (a f : Grid) (result : Result ℕ StoreFault) → 0 < k → IsQuarterCorner (side_at 8 (k - 1)) column row → AreSameWithin (side_at 8 (k - 1)) a (grid_from column row f)
    → IsDrawn old new (k - 1) a result → IsPartly old new k f result
of_quarter old new k column row a f result some corner same drawn = record {
  grows = drawn.grows;
  writes = drawn.writes;
  pieces = adds_quarter plane_grid 8 old new k column row a f some corner same drawn.pieces;
  full = λ e. quarter_full new k column row a f some corner same (drawn.full e);
}

pub more : (s t r : Held PlaneLeaf) (k : ℕ) (f : Grid) (first result : Result ℕ StoreFault) → IsPartly s t k f first → IsPartly t r k f result → IsPartly s r k f result
more s t r k f first result a b = record {
  grows = grown_more plane_grid 8 s t r a.grows b.grows;
  writes = λ holds. b.writes (a.writes holds);
  pieces = adds_more plane_grid 8 s t r k f b.grows a.pieces b.pieces;
  full = b.full;
}

pub all_drawn : (old new : Held PlaneLeaf) (k p : ℕ) (f : Grid) → Draws plane_grid 8 new k f p → IsPartly old new k f (Ok p) → IsDrawn old new k f (Ok p)
all_drawn old new k p f drawn part = record { draws = drawn; grows = part.grows; writes = part.writes; pieces = part.pieces; full = part.full }

-- a refusal that is passed on
pub refused : (old new : Held PlaneLeaf) (k : ℕ) (f : Grid) (x : StoreFault) (result : Result ℕ StoreFault) → IsErrAnd result (λ e. e ≡ x) → IsPartly old new k f (Err x) → IsDrawn old new k f result
refused old new k f x (Ok p) h part = absurd h
refused old new k f x (Err e) h part = record {
  draws = tt;
  grows = part.grows;
  writes = part.writes;
  pieces = part.pieces;
  full = λ z. part.full (ap (λ (y : StoreFault). Err y) (sym h) ∙ z);
}

pub as_refused : (old new : Held PlaneLeaf) (k : ℕ) (f : Grid) (x : StoreFault) (result : Result ℕ StoreFault) → IsErrAnd result (λ e. e ≡ x) → IsDrawn old new k f (Err x) → IsDrawn old new k f result
as_refused old new k f x result h drawn = refused old new k f x result h (record { grows = drawn.grows; writes = drawn.writes; pieces = drawn.pieces; full = drawn.full })

-- what was drawn is the quarter of the whole, in a store that grew further
pub made : (new last : Held PlaneLeaf) (k column row : ℕ) (a f : Grid) (d : ℕ) → AreSameWithin (side_at 8 (k - 1)) a (grid_from column row f) → IsGrown plane_grid 8 new last → Draws plane_grid 8 new (k - 1) a d
    → AreSameWithin (side_at 8 (k - 1)) (grid_at plane_grid 8 last (k - 1) d) (grid_from column row f)
made new last k column row a f d same later drawn = (draws_as plane_grid 8 last (k - 1) a (grid_from column row f) d same (draws_later plane_grid 8 new last (k - 1) a d later drawn)).same

-- an edit over a map, by the squares of both
pub over_square : (p : StampedPlane) (e : PlaneEdit) → AreSameWithin (side_at 8 28) (overwritten_grid (grid_at plane_grid 8 p.store 28 p.root) (plane_writes e)) (square_of (overwritten (map_of p) (writes_of e)))
over_square p e u v hu hv = ap (λ w. overwrite w (plane_writes e u v)) (sym (root_read p u v (omega (arith, hu)) (omega (arith, hv))))
