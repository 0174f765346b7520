-- What is read of a plane.
use Rattle.std.proofs.Common.{◌≡◌, ℕ, ◌<◌, ◌≤◌, Bool, true, false, ℤ, pos, ◌+ℤ◌, refl, ap, subst, arith, length}
use Rattle.std.specs.Prelude.{IsTrue, int_le, int_lt, if◌then◌else◌}
use Rattle.std.proofs.lemmas.Int.{ints}
use Rattle.std.proofs.lemmas.Bool.{and_parts}
use Rattle.stamped_writes.specs.declared.write.Write.{Write}
use Rattle.generations_rule.specs.Place.{Place, moved}
use Rattle.stamped_writes.specs.Write.{unwritten, AreSame}
use Rattle.edit_stamps.specs.Plane.{least, past, is_coordinate_in_plane, is_in_plane}
use Rattle.edit_stamps.specs.PlaneMap.{HasStampedWrites, IsGreatestStamp, is_plane_write}
use Rattle.square_store.specs.Grid.{Grid, blank_grid}
use Rattle.square_store.specs.Squares.{Held, side_at, IsAt, grid_at, Draws}
use Rattle.square_store.specs.Store.{nothing_held, IsGrown, IsAdded, Stood, Added}
use Rattle.square_store.proofs.Places.{at_within}
use Rattle.stamped_tree.specs.declared.leaf_kind.PlaneLeaf.{PlaneLeaf}
use Rattle.stamped_tree.specs.declared.leaf_kind.StampBounds.{StampBounds}
use Rattle.stamped_tree.specs.LeafKind.{plane_grid, AreStampBounds}
use Rattle.stamped_tree.specs.Plane.{StampedPlane, from_edge, map_of, IsPlane, IsPart}
use Rattle.stamped_tree.specs.Tree.{plane_corner}

-- a coordinate of the plane is a column
pub column_within : (n : ℤ) → is_coordinate_in_plane n ≡ true → from_edge n < 2147483648
column_within n h =
    let parts : (int_le least n ≡ true) × (int_lt n past ≡ true) = and_parts _ _ h in
    omega (arith, ints, parts.0, parts.1)

-- a column is a coordinate of the plane
pub column_of : (u : ℕ) → from_edge (least +ℤ pos u) ≡ u
column_of u = omega (arith, ints)

in_plane : (u : ℕ) → u < 2147483648 → is_coordinate_in_plane (least +ℤ pos u) ≡ true
in_plane u h = grind (arith, ints, h)

-- what holds of the root's writes, and of the least, holds of the map
pub each_read : (P : Write → Type 0) (p : StampedPlane) → ((u v : ℕ) → u < 2147483648 → v < 2147483648 → P (grid_at plane_grid 8 p.store 28 p.root u v)) → P unwritten → (c : Place) → P (map_of p c)
each_read P p inside outside c = go (is_in_plane c) refl
  where
    go : (b : Bool) → is_in_plane c ≡ b → P (if b then grid_at plane_grid 8 p.store 28 p.root (from_edge c.x) (from_edge c.y) else unwritten)
    go false e = outside
    go true e =
        let parts : (is_coordinate_in_plane c.x ≡ true) × (is_coordinate_in_plane c.y ≡ true) = and_parts _ _ e in
        inside (from_edge c.x) (from_edge c.y) (column_within c.x parts.0) (column_within c.y parts.1)

-- the root's writes are read
pub root_read : (p : StampedPlane) (u v : ℕ) → u < 2147483648 → v < 2147483648 → map_of p (moved plane_corner (pos u) (pos v)) ≡ grid_at plane_grid 8 p.store 28 p.root u v
root_read p u v hu hv = rw (in_plane u hu, in_plane v hv, column_of u, column_of v) refl

pub stamped : (p : StampedPlane) → IsPlane p → HasStampedWrites (map_of p)
stamped p is = each_read (λ w. IsTrue (is_plane_write w)) p (λ u v hu hv. is.writes 28 p.root is.root u v (omega (arith, hu)) (omega (arith, hv))) refl

pub greatest_read : (p : StampedPlane) (b : StampBounds) → AreStampBounds (side_at 8 28) (grid_at plane_grid 8 p.store 28 p.root) b → IsGreatestStamp b.greatest (map_of p)
greatest_read p b are = record {
  above = each_read (λ w. w.stamp ≤ b.greatest) p (λ u v hu hv. are.below u v (omega (arith, hu)) (omega (arith, hv))) (omega arith);
  least = λ m above.
      (let reached = are.greatest in
      let u = reached.0 in let v = reached.1.0 in let hu = reached.1.1 in let hv = reached.1.2 in
      let e = ap (λ (w : Write). w.stamp) (root_read p u v (omega (arith, hu)) (omega (arith, hv))) in
      let h = above (moved plane_corner (pos u) (pos v)) in
      omega (arith, reached.1.3, e, h));
}

-- a store that grew reads as it did
pub grown_read : (old new : Held PlaneLeaf) (root : ℕ) → IsGrown plane_grid 8 old new → IsPart old 31 root → AreSame (map_of (record { store = new; root = root })) (map_of (record { store = old; root = root }))
grown_read old new root grown at c = ap (λ (f : Grid). if is_in_plane c then f (from_edge c.x) (from_edge c.y) else unwritten) (grown.same 28 root at)

-- a blank of stamp 0 is read as nothing
pub blank_read : (p : StampedPlane) → Draws plane_grid 8 p.store 28 (blank_grid 0) p.root → AreSame (map_of p) (λ _. unwritten)
blank_read p drawn = each_read (λ w. w ≡ unwritten) p (λ u v hu hv. drawn.same u v (omega (arith, hu)) (omega (arith, hv))) refl

-- the first square of a store
pub first_square : (room : ℕ) (new : Held PlaneLeaf) (k : ℕ) (f : Grid) (p : ℕ) → Draws plane_grid 8 new k f p → IsAdded plane_grid 8 (nothing_held room) new k f p → length new.squares ≡ 1
first_square room new k f p drawn (Stood e) = let within = at_within (nothing_held room) k p (subst (λ s. IsAt s k p) e drawn.stands) in absurd (omega (arith, within))
first_square room new k f p drawn (Added absent place more) = more
