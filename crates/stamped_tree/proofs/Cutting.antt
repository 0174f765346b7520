-- The squares that a square is cut into.
use Rattle.std.proofs.Common.{◌≡◌, ◌⊎◌, ℕ, zero, suc, ◌+◌, ◌-◌, ◌<◌, List, length, inl, inr, sym, subst, arith}
use Rattle.std.specs.Prelude.{slice_index_or, IsTrue}
use Rattle.std.proofs.lemmas.Bool.{cases_lt}
use Rattle.stamped_writes.specs.declared.write.Write.{Write}
use Rattle.edit_stamps.specs.PlaneMap.{is_plane_write}
use Rattle.square_store.specs.Grid.{Grid, AreSameWithin}
use Rattle.square_store.specs.Pieces.{grid_from, IsQuarterCorner, IsPieceOfGrid, AddsPiecesOfGrid, HoldsPiecesOfGrid}
use Rattle.square_store.specs.Squares.{Held, side_at, IsAt, grid_at, four_grid, Draws}
use Rattle.square_store.specs.Store.{nothing_held, IsHeld, IsAdded, Stood, Added}
use Rattle.square_store.proofs.PieceLaws.{part_nw, part_ne, part_sw, part_se, piece_itself}
use Rattle.square_store.proofs.Places.{at_within}
use Rattle.square_store.proofs.Quarters.{twice}
use Rattle.stamped_tree.specs.declared.leaf_kind.PlaneLeaf.{PlaneLeaf}
use Rattle.stamped_tree.specs.LeafKind.{plane_grid}
use Rattle.stamped_tree.specs.Copy.{AddsAtMost}
use Rattle.stamped_tree.specs.Plane.{HasPlaneWrites, HoldPlaneWrites}
use Rattle.stamped_tree.proofs.Held.{any_level}
use Rattle.stamped_tree.proofs.Parts.{same_default}

pub one_more_at_most : (old new : Held PlaneLeaf) (k p : ℕ) (f : Grid) → IsAdded plane_grid 8 old new k f p → AddsAtMost old new p
one_more_at_most old new k p f (Stood e) = λ q h. inl (subst (λ s. IsHeld s q) e h)
one_more_at_most old new k p f (Added absent place more) = λ q h. elim (cases_lt q (length old.squares)) [
  | inl below ↦ inl below
  | inr above ↦ inr (omega (arith, h, more, place, above))
]

-- one square, which is a piece of itself
pub one_cut : (old new : Held PlaneLeaf) (k p : ℕ) (f : Grid) → AddsAtMost old new p → Draws plane_grid 8 new k f p → AddsPiecesOfGrid plane_grid 8 old new k f
one_cut old new k p f one drawn q held = elim (one q held) [
  | inl h ↦ inl h
  | inr e ↦ inr (subst (λ r. IsPieceOfGrid plane_grid 8 new k f r) (sym e) (piece_itself plane_grid 8 new k f p drawn))
]

-- the quarters of a square, by its parts, whatever stands for a part that is not there
module _ (s : Held PlaneLeaf) (k p : ℕ) (parts : List ℕ) (some : 0 < k) (long : length parts ≡ 4) (same : AreSameWithin (side_at 8 k) (grid_at plane_grid 8 s k p) (four_grid plane_grid 8 s (k - 1) parts)) where
  of_default : (i w : ℕ) (f : Grid) → i < 4 → AreSameWithin (side_at 8 (k - 1)) (grid_at plane_grid 8 s (k - 1) (slice_index_or parts i 0)) f → AreSameWithin (side_at 8 (k - 1)) (grid_at plane_grid 8 s (k - 1) (slice_index_or parts i w)) f
  of_default i w f h = subst (λ q. AreSameWithin (side_at 8 (k - 1)) (grid_at plane_grid 8 s (k - 1) q) f) (same_default parts i 0 w (omega (arith, h, long)))

  whole : AreSameWithin (side_at 8 k) (four_grid plane_grid 8 s (k - 1) parts) (grid_at plane_grid 8 s k p)
  whole u v hu hv = sym (same u v hu hv)

  pub from_nw : (w : ℕ) → AreSameWithin (side_at 8 (k - 1)) (grid_at plane_grid 8 s (k - 1) (slice_index_or parts 0 w)) (grid_from 0 0 (grid_at plane_grid 8 s k p))
  from_nw w = of_default 0 w (grid_from 0 0 (grid_at plane_grid 8 s k p)) (omega arith) (part_nw plane_grid 8 s k parts (grid_at plane_grid 8 s k p) some whole)

  pub from_ne : (w : ℕ) → AreSameWithin (side_at 8 (k - 1)) (grid_at plane_grid 8 s (k - 1) (slice_index_or parts 1 w)) (grid_from (side_at 8 (k - 1)) 0 (grid_at plane_grid 8 s k p))
  from_ne w = of_default 1 w (grid_from (side_at 8 (k - 1)) 0 (grid_at plane_grid 8 s k p)) (omega arith) (part_ne plane_grid 8 s k parts (grid_at plane_grid 8 s k p) some whole)

  pub from_sw : (w : ℕ) → AreSameWithin (side_at 8 (k - 1)) (grid_at plane_grid 8 s (k - 1) (slice_index_or parts 2 w)) (grid_from 0 (side_at 8 (k - 1)) (grid_at plane_grid 8 s k p))
  from_sw w = of_default 2 w (grid_from 0 (side_at 8 (k - 1)) (grid_at plane_grid 8 s k p)) (omega arith) (part_sw plane_grid 8 s k parts (grid_at plane_grid 8 s k p) some whole)

  pub from_se : (w : ℕ) → AreSameWithin (side_at 8 (k - 1)) (grid_at plane_grid 8 s (k - 1) (slice_index_or parts 3 w)) (grid_from (side_at 8 (k - 1)) (side_at 8 (k - 1)) (grid_at plane_grid 8 s k p))
  from_se w = of_default 3 w (grid_from (side_at 8 (k - 1)) (side_at 8 (k - 1)) (grid_at plane_grid 8 s k p)) (omega arith) (part_se plane_grid 8 s k parts (grid_at plane_grid 8 s k p) some whole)

-- ---- what a square writes, those that it is cut into write

within : (k x u : ℕ) → (x ≡ 0) ⊎ (x ≡ side_at 8 k) → u < side_at 8 k → x + u < side_at 8 (suc k)
within k x u (inl e) l = omega (arith, e, l, twice 8 k)
within k x u (inr e) l = omega (arith, e, l, twice 8 k)

part_has : (k column row : ℕ) (f : Grid) → IsQuarterCorner (side_at 8 k) column row → HasPlaneWrites (side_at 8 (suc k)) f → HasPlaneWrites (side_at 8 k) (grid_from column row f)
part_has k column row f corner has u v hu hv = has (column + u) (row + v) (within k column u corner.left hu) (within k row v corner.upper hv)

drawn_has : (s : Held PlaneLeaf) (k : ℕ) (f : Grid) (q : ℕ) → HasPlaneWrites (side_at 8 k) f → Draws plane_grid 8 s k f q → (j : ℕ) → IsAt s j q → HasPlaneWrites (side_at 8 j) (grid_at plane_grid 8 s j q)
drawn_has s k f q has drawn = any_level s k q drawn.stands (λ u v hu hv. subst (λ (w : Write). IsTrue (is_plane_write w)) (sym (drawn.same u v hu hv)) (has u v hu hv))

cut_has : (s : Held PlaneLeaf) (k : ℕ) (f : Grid) (q : ℕ) → HasPlaneWrites (side_at 8 k) f → IsPieceOfGrid plane_grid 8 s k f q → (j : ℕ) → IsAt s j q → HasPlaneWrites (side_at 8 j) (grid_at plane_grid 8 s j q)
unfolding IsPieceOfGrid
cut_has s zero f q has piece = drawn_has s 0 f q has piece
cut_has s (suc k) f q has piece = elim piece [
  | inl drawn ↦ drawn_has s (suc k) f q has drawn
  | inr below ↦ cut_has s k (grid_from below.0 below.1.0 f) q (part_has k below.0 below.1.0 f below.1.1.0 has) below.1.1.1
]

-- a store that was empty
pub cut_alone : (room : ℕ) (s : Held PlaneLeaf) (k : ℕ) (f : Grid) → AddsPiecesOfGrid plane_grid 8 (nothing_held room) s k f → HoldsPiecesOfGrid plane_grid 8 s k f
cut_alone room s k f cut q held = elim (cut q held) [
  | inl h ↦ absurd (omega (arith, h))
  | inr piece ↦ piece
]

-- what the root's copy writes, the whole of a store writes that was empty
pub cut_holds : (room : ℕ) (s : Held PlaneLeaf) (k : ℕ) (f : Grid) → HasPlaneWrites (side_at 8 k) f → AddsPiecesOfGrid plane_grid 8 (nothing_held room) s k f → HoldPlaneWrites s
cut_holds room s k f has cut j q h = cut_has s k f q has (cut_alone room s k f cut q (at_within s j q h)) j h
