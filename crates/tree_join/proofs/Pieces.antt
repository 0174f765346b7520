-- What is stored where squares are brought or joined, quarter by quarter.
use Rattle.std.proofs.Common.{◌≡◌, Bool, true, false, ℕ, ◌+◌, ◌-◌, ◌<◌, List, length, refl, sym, ap, subst, ◌∙◌, arith}
use Rattle.std.specs.Prelude.{slice_index_or, if◌then◌else◌}
use Rattle.std.proofs.lemmas.Bool.{and_parts}
use Rattle.edit_stamps.specs.Plane.{is_coordinate_in_plane, is_in_plane}
use Rattle.stamped_writes.specs.Write.{AreSame, greater, joined, unwritten}
use Rattle.square_store.specs.Grid.{Grid, AreSameWithin}
use Rattle.square_store.specs.Pieces.{grid_from, AddsPiecesOfGrid}
use Rattle.square_store.specs.Squares.{Held, side_at, IsAt, grid_at}
use Rattle.square_store.specs.Store.{IsStore, IsGrown, IsOnePartEach}
use Rattle.square_store.proofs.PieceLaws.{adds_unchanged, adds_nothing}
use Rattle.stamped_tree.specs.declared.leaf_kind.PlaneLeaf.{PlaneLeaf}
use Rattle.stamped_tree.specs.LeafKind.{IsPlaneLeaf, plane_grid}
use Rattle.stamped_tree.specs.MapPieces.{square_of}
use Rattle.stamped_tree.specs.Plane.{StampedPlane, IsPart, from_edge, map_of}
use Rattle.stamped_tree.proofs.Cutting.{from_nw, from_ne, from_sw, from_se}
use Rattle.stamped_tree.proofs.Maps.{column_within, root_read}
use Rattle.stamped_tree.proofs.Parts.{same_default}
use Rattle.tree_join.specs.Squares.{AreQuarters, IsSquareJoin, join_grid}
use Rattle.tree_join.proofs.Joining.{joins_as_before}

pub level_is : (k : ℕ) → k + 3 - 3 ≡ k
level_is k = omega arith

-- a plane that is as it was
pub plane_adds_none : (old new : StampedPlane) → new ≡ old → (k : ℕ) (f : Grid) → AddsPiecesOfGrid plane_grid 8 old.store new.store k f
plane_adds_none old new e = adds_unchanged plane_grid 8 old.store new.store (ap (λ (p : StampedPlane). p.store) e)

-- the quarters of a join are the joins of the quarters, also where the first store grew
module _ (s there : Held PlaneLeaf) (k a b : ℕ) (pa pb : List ℕ) (some : 0 < k) (qa : AreQuarters s k a pa) (qb : AreQuarters there k b pb) (t : Held PlaneLeaf) (grown : IsGrown plane_grid 8 s t) (w x : ℕ) where
  still : (i : ℕ) → i < 4 → IsAt s (k - 1) (slice_index_or pa i w)
  still i h = subst (λ q. IsAt s (k - 1) q) (same_default pa i 0 w (let l = qa.four in omega (arith, h, l))) (qa.stand i h)

  both : (i column row : ℕ) → i < 4 → AreSameWithin (side_at 8 (k - 1)) (grid_at plane_grid 8 s (k - 1) (slice_index_or pa i w)) (grid_from column row (grid_at plane_grid 8 s k a))
      → AreSameWithin (side_at 8 (k - 1)) (grid_at plane_grid 8 there (k - 1) (slice_index_or pb i x)) (grid_from column row (grid_at plane_grid 8 there k b))
      → AreSameWithin (side_at 8 (k - 1)) (join_grid t there (k - 1) (slice_index_or pa i w) (slice_index_or pb i x)) (grid_from column row (join_grid s there k a b))
  both i column row h ea eb u v hu hv =
      ap (λ (f : Grid). greater (f u v) (grid_at plane_grid 8 there (k - 1) (slice_index_or pb i x) u v)) (grown.same (k - 1) (slice_index_or pa i w) (still i h))
      ∙ ap (λ z. greater z (grid_at plane_grid 8 there (k - 1) (slice_index_or pb i x) u v)) (ea u v hu hv)
      ∙ ap (λ z. greater (grid_at plane_grid 8 s k a (column + u) (row + v)) z) (eb u v hu hv)

  pub join_nw : AreSameWithin (side_at 8 (k - 1)) (join_grid t there (k - 1) (slice_index_or pa 0 w) (slice_index_or pb 0 x)) (grid_from 0 0 (join_grid s there k a b))
  join_nw = both 0 0 0 (omega arith) (from_nw s k a pa some qa.four qa.same w) (from_nw there k b pb some qb.four qb.same x)

  pub join_ne : AreSameWithin (side_at 8 (k - 1)) (join_grid t there (k - 1) (slice_index_or pa 1 w) (slice_index_or pb 1 x)) (grid_from (side_at 8 (k - 1)) 0 (join_grid s there k a b))
  join_ne = both 1 (side_at 8 (k - 1)) 0 (omega arith) (from_ne s k a pa some qa.four qa.same w) (from_ne there k b pb some qb.four qb.same x)

  pub join_sw : AreSameWithin (side_at 8 (k - 1)) (join_grid t there (k - 1) (slice_index_or pa 2 w) (slice_index_or pb 2 x)) (grid_from 0 (side_at 8 (k - 1)) (join_grid s there k a b))
  join_sw = both 2 0 (side_at 8 (k - 1)) (omega arith) (from_sw s k a pa some qa.four qa.same w) (from_sw there k b pb some qb.four qb.same x)

  pub join_se : AreSameWithin (side_at 8 (k - 1)) (join_grid t there (k - 1) (slice_index_or pa 3 w) (slice_index_or pb 3 x)) (grid_from (side_at 8 (k - 1)) (side_at 8 (k - 1)) (join_grid s there k a b))
  join_se = both 3 (side_at 8 (k - 1)) (side_at 8 (k - 1)) (omega arith) (from_se s k a pa some qa.four qa.same w) (from_se there k b pb some qb.four qb.same x)

-- ---- maps

-- the join of two maps, by the squares of both
pub joined_square : (p q : StampedPlane) → AreSameWithin (side_at 8 28) (join_grid p.store q.store 28 p.root q.root) (square_of (joined (map_of p) (map_of q)))
joined_square p q u v hu hv =
    ap (λ w. greater w (grid_at plane_grid 8 q.store 28 q.root u v)) (sym (root_read p u v (omega (arith, hu)) (omega (arith, hv))))
    ∙ ap (λ w. greater (square_of (map_of p) u v) w) (sym (root_read q u v (omega (arith, hu)) (omega (arith, hv))))

-- where the map that is wanted is that of a plane, its square stands
pub kept_same : (p : StampedPlane) (new : Held PlaneLeaf) (map : Grid) → IsPart p.store 31 p.root → IsStore plane_grid 8 IsPlaneLeaf p.store → IsOnePartEach plane_grid 8 new → IsGrown plane_grid 8 p.store new
    → AreSameWithin (side_at 8 28) (square_of (map_of p)) map → AddsPiecesOfGrid plane_grid 8 p.store new 28 map → length new.squares ≡ length p.store.squares
kept_same p new map at is one grown same adds = adds_nothing plane_grid 8 IsPlaneLeaf p.store is new grown one 28 map p.root (record {
  stands = at;
  same = λ u v hu hv. sym (root_read p u v (omega (arith, hu)) (omega (arith, hv))) ∙ same u v hu hv;
}) adds

-- what is read where a square is the join of two roots
pub joined_read : (old new other : StampedPlane) → IsGrown plane_grid 8 old.store new.store → IsPart old.store 31 old.root → IsSquareJoin new.store other.store 28 old.root other.root new.root → AreSame (map_of new) (joined (map_of old) (map_of other))
joined_read old new other grown at join c = go (is_in_plane c) refl
  where
    go : (b : Bool) → is_in_plane c ≡ b
        → (if b then grid_at plane_grid 8 new.store 28 new.root (from_edge c.x) (from_edge c.y) else unwritten)
        ≡ greater (if b then grid_at plane_grid 8 old.store 28 old.root (from_edge c.x) (from_edge c.y) else unwritten) (if b then grid_at plane_grid 8 other.store 28 other.root (from_edge c.x) (from_edge c.y) else unwritten)
    go false e = refl
    go true e =
        let parts : (is_coordinate_in_plane c.x ≡ true) × (is_coordinate_in_plane c.y ≡ true) = and_parts _ _ e in
        let hu = column_within c.x parts.0 in
        let hv = column_within c.y parts.1 in
        join.draws.same (from_edge c.x) (from_edge c.y) (omega (arith, hu)) (omega (arith, hv)) ∙ joins_as_before other.store 28 old.root other.root old.store new.store grown at (from_edge c.x) (from_edge c.y)
