-- What is read of two planes, by their roots.
use Rattle.std.proofs.Common.{◌≡◌, ◌↔◌, Bool, true, false, pos, refl, subst, arith}
use Rattle.std.specs.Prelude.{if◌then◌else◌}
use Rattle.std.proofs.lemmas.Bool.{and_parts}
use Rattle.generations_rule.specs.Place.{Place, moved}
use Rattle.stamped_writes.specs.declared.write.Write.{Write}
use Rattle.edit_stamps.specs.Plane.{is_coordinate_in_plane, is_in_plane}
use Rattle.stamped_writes.specs.Write.{unwritten}
use Rattle.square_store.specs.Squares.{side_at, grid_at}
use Rattle.stamped_tree.specs.LeafKind.{plane_grid}
use Rattle.stamped_tree.specs.Plane.{StampedPlane, from_edge, map_of}
use Rattle.stamped_tree.specs.Tree.{plane_corner}
use Rattle.stamped_tree.proofs.Maps.{column_within, root_read}
use Rattle.tree_join.proofs.Comparing.{AreRelated}

-- writes that are related at each place of the roots are related wherever they are read, and no others are
pub reads_related : (R : Write → Write → Type 0) → R unwritten unwritten → (p q : StampedPlane)
    → AreRelated R (side_at 8 28) (grid_at plane_grid 8 p.store 28 p.root) (grid_at plane_grid 8 q.store 28 q.root) ↔ ((c : Place) → R (map_of p c) (map_of q c))
reads_related R outside p q = (
  λ inside c. go inside c (is_in_plane c) refl,
  λ read u v hu hv. (let c = moved plane_corner (pos u) (pos v) in
      subst (λ w. R (grid_at plane_grid 8 p.store 28 p.root u v) w) (root_read q u v (omega (arith, hu)) (omega (arith, hv)))
      (subst (λ w. R w (map_of q c)) (root_read p u v (omega (arith, hu)) (omega (arith, hv))) (read c))),
)
  where
    go : AreRelated R (side_at 8 28) (grid_at plane_grid 8 p.store 28 p.root) (grid_at plane_grid 8 q.store 28 q.root) → (c : Place) → (b : Bool) → is_in_plane c ≡ b
        → R (if b then grid_at plane_grid 8 p.store 28 p.root (from_edge c.x) (from_edge c.y) else unwritten) (if b then grid_at plane_grid 8 q.store 28 q.root (from_edge c.x) (from_edge c.y) else unwritten)
    go inside c false e = outside
    go inside c true e =
        let parts : (is_coordinate_in_plane c.x ≡ true) × (is_coordinate_in_plane c.y ≡ true) = and_parts _ _ e in
        let hu = column_within c.x parts.0 in
        let hv = column_within c.y parts.1 in
        inside (from_edge c.x) (from_edge c.y) (omega (arith, hu)) (omega (arith, hv))
