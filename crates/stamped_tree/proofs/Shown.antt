-- The views of a part show the tree of the map that its square covers.
use Rattle.std.proofs.Common.{◌≡◌, ℕ, zero, suc, ◌+◌, ◌-◌, ◌*◌, ◌<◌, Bool, true, false, [], ◌∷◌, refl, sym, ap, subst, ◌∙◌, arith, ℤ, pos, ◌+ℤ◌}
use Rattle.std.specs.Prelude.{slice_get, Option, None, Some, int_le, int_lt}
use Rattle.std.proofs.lemmas.Int.{ints}
use Rattle.std.proofs.lemmas.Bool.{and_parts}
use Rattle.generations_rule.specs.Place.{Place, moved}
use Rattle.stamped_writes.specs.Write.{unwritten, Writes, AreSame}
use Rattle.edit_stamps.specs.Plane.{least, past, is_in_plane, is_coordinate_in_plane}
use Rattle.square_store.specs.declared.node.Node.{Node}
use Rattle.square_store.specs.declared.node.Node.TheVariants as node
use Rattle.square_store.specs.Grid.{Grid, blank_grid, quartered, AreSameWithin, IsSpeltWithin}
use Rattle.square_store.specs.Squares.{Held, side_at, IsAt, grid_at, four_grid, Draws}
use Rattle.square_store.specs.Store.{IsStore}
use Rattle.square_store.specs.Seen.{IsLeafAt, IsFourAt}
use Rattle.square_store.proofs.Quarters.{twice, quarters_of}
use Rattle.square_store.proofs.Places.{node_at, leaf_at, parts_below}
use Rattle.square_store.proofs.Made.{blank_draws, leaf_seen, four_seen}
use Rattle.stamped_tree.specs.declared.leaf_kind.PlaneLeaf.{PlaneLeaf}
use Rattle.stamped_tree.specs.LeafKind.{plane_grid, IsPlaneLeaf, plane_exact}
use Rattle.stamped_tree.specs.Plane.{StampedPlane, map_of}
use Rattle.stamped_tree.specs.Tree.{Tree, Blank, Leaf, Four, side, IsInSquare, IsBlank, IsMixed, east, south, south_east, IsTreeOf, plane_corner, AreSameIn}
use Rattle.stamped_tree.specs.View.{ShowsTree, ShowsItsTree, ShowSameWhereSame}
use Rattle.stamped_tree.proofs.Parts.{same_default}
use Rattle.stamped_tree.proofs.Maps.{root_read}
use Rattle.stamped_tree.proofs.TreeLaws.{inside, is_inside, reached, distance, one_tree, one_map}

-- the writes of the square at a part are those of the map from a corner on
abbrev pub Covers : Writes → Place → Held PlaneLeaf → ℕ → ℕ → Type 0
Covers p corner s k part = (u v : ℕ) → u < side k → v < side k → grid_at plane_grid 8 s k part u v ≡ p (moved corner (pos u) (pos v))

-- a place of the square is so far from its corner
pub from_corner : (P : Place → Type 0) (corner : Place) (n : ℕ) → ((u v : ℕ) → u < n → v < n → P (moved corner (pos u) (pos v))) → (c : Place) → IsInSquare corner n c → P c
from_corner P corner n all c h =
    let i = inside corner n c h in
    let x = distance corner.x c.x n i.left i.right in
    let y = distance corner.y c.y n i.above i.below in
    let here : moved corner (pos x.0) (pos y.0) ≡ c = λ j. record { x = x.2 j; y = y.2 j } in
    subst P here (all x.0 y.0 x.1 y.1)

module _ (s : Held PlaneLeaf) (p : Writes) where
  blank_of : (k part t : ℕ) (corner : Place) → Covers p corner s k part → Draws plane_grid 8 s k (blank_grid t) part → IsBlank p corner (side k) t
  blank_of k part t corner covers drawn = from_corner (λ c. p c ≡ blank_grid t 0 0) corner (side k) (λ u v hu hv. sym (covers u v hu hv) ∙ drawn.same u v hu hv)

  mixed_of : (k part : ℕ) (corner : Place) → Covers p corner s k part → IsSpeltWithin (side k) (grid_at plane_grid 8 s k part) → IsMixed p corner (side k)
  mixed_of k part corner covers spelt t blank = spelt t (λ u v hu hv. covers u v hu hv ∙ blank (moved corner (pos u) (pos v)) (reached corner (side k) u v hu hv))

  leaf_of : (part : ℕ) (l : PlaneLeaf) (corner : Place) → IsPlaneLeaf l → Covers p corner s 0 part → IsLeafAt plane_grid 8 s l part → IsTreeOf p 0 corner (Leaf l.leaf)
  leaf_of part l corner long covers at = (
    mixed_of 0 part corner covers (λ t blank. at.spelt t (λ u v hu hv. sym (at.draws.same u v (omega (arith, hu)) (omega (arith, hv))) ∙ blank u v (omega (arith, hu)) (omega (arith, hv)))),
    record {
      count = long;
      each = λ column row hc hr d.
          same_default l.leaf (8 * row + column) d unwritten (omega (arith, hc, hr, long))
          ∙ sym (at.draws.same column row (omega (arith, hc)) (omega (arith, hr)))
          ∙ covers column row (omega (arith, hc)) (omega (arith, hr));
    },
  )

  further : (corner : Place) (m n u v x y : ℕ) → x ≡ m + u → y ≡ n + v → moved corner (pos x) (pos y) ≡ moved (moved corner (pos m) (pos n)) (pos u) (pos v)
  further corner m n u v x y hx hy = λ j. record { x = add corner.x m u x hx j; y = add corner.y n v y hy j }
    where
      add : (z : ℤ) (m u x : ℕ) → x ≡ m + u → z +ℤ pos x ≡ z +ℤ pos m +ℤ pos u
      add z m u x h = omega (arith, ints, h)

  less : (k : ℕ) → suc k - 1 ≡ k
  less k = omega arith

  module _ (k part a b c d : ℕ) (corner : Place) (covers : Covers p corner s (suc k) part) (four : IsFourAt plane_grid 8 s (suc k) (a ∷ b ∷ c ∷ d ∷ []) part) where
    abbrev n : ℕ
    n = side_at 8 k

    abbrev at : ℕ → Grid
    at q = grid_at plane_grid 8 s k q

    drawn : Draws plane_grid 8 s (suc k) (quartered n (at a) (at b) (at c) (at d)) part
    drawn = subst (λ i. Draws plane_grid 8 s (suc k) (four_grid plane_grid 8 s i (a ∷ b ∷ c ∷ d ∷ [])) part) (less k) four.draws

    whole : AreSameWithin (n + n) (quartered n (at a) (at b) (at c) (at d)) (λ u v. p (moved corner (pos u) (pos v)))
    whole u v hu hv = sym (drawn.same u v (omega (arith, hu, twice 8 k)) (omega (arith, hv, twice 8 k))) ∙ covers u v (omega (arith, hu, twice 8 k)) (omega (arith, hv, twice 8 k))

    record AreCovered : Type 0 where
      nw : Covers p corner s k a
      ne : Covers p (east (side k) corner) s k b
      sw : Covers p (south (side k) corner) s k c
      se : Covers p (south_east (side k) corner) s k d

    quarters : AreCovered
    quarters = let each = quarters_of n (at a) (at b) (at c) (at d) (λ u v. p (moved corner (pos u) (pos v))) whole in record {
      nw = each.nw;
      ne = λ u v hu hv. each.ne u v hu hv ∙ ap p (further corner n 0 u v (n + u) v refl (omega arith));
      sw = λ u v hu hv. each.sw u v hu hv ∙ ap p (further corner 0 n u v u (n + v) (omega arith) refl);
      se = λ u v hu hv. each.se u v hu hv ∙ ap p (further corner n n u v (n + u) (n + v) refl refl);
    }

  four_of : (k part a b c d : ℕ) (corner : Place) → Covers p corner s (suc k) part → IsFourAt plane_grid 8 s (suc k) (a ∷ b ∷ c ∷ d ∷ []) part → (nw ne sw se : Tree)
      → IsTreeOf p k corner nw → IsTreeOf p k (east (side k) corner) ne → IsTreeOf p k (south (side k) corner) sw → IsTreeOf p k (south_east (side k) corner) se → IsTreeOf p (suc k) corner (Four nw ne sw se)
  four_of k part a b c d corner covers four nw ne sw se h i j l = (mixed_of (suc k) part corner covers four.spelt, h, i, j, l)

  parts_at : (k part a b c d : ℕ) → IsFourAt plane_grid 8 s (suc k) (a ∷ b ∷ c ∷ d ∷ []) part → IsAt s k a × IsAt s k b × IsAt s k c × IsAt s k d
  parts_at k part a b c d four =
      let stand = λ (q : ℕ) (h : IsAt s (suc k - 1) q). subst (λ j. IsAt s j q) (less k) h in
      (stand a (four.parts_stand 0 (omega arith)), stand b (four.parts_stand 1 (omega arith)), stand c (four.parts_stand 2 (omega arith)), stand d (four.parts_stand 3 (omega arith)))

  -- what is shown is the tree of the map
  pub shown_is_tree : (tree : Tree) (k part : ℕ) (corner : Place) → IsAt s k part → Covers p corner s k part → ShowsTree s part tree → IsTreeOf p k corner tree
  shown_is_tree (Blank t) k part corner at covers shows = blank_of k part t corner covers (shows k)
  shown_is_tree (Leaf writes) zero part corner at covers shows = leaf_of part (record { leaf = writes }) corner shows.0 covers shows.1
  shown_is_tree (Leaf writes) (suc k) part corner at covers shows = let h = shows.1.level (suc k) at in absurd (omega (arith, h))
  shown_is_tree (Four nw ne sw se) zero part corner at covers shows = let four = shows.1.1.1.1.1 in let h = four.positive in let e = four.level 0 at in absurd (omega (arith, h, e))
  shown_is_tree (Four nw ne sw se) (suc k) part corner at covers shows =
      let a = shows.1.0 in let b = shows.1.1.0 in let c = shows.1.1.1.0 in let d = shows.1.1.1.1.0 in
      let below = shows.1.1.1.1 in
      let four = subst (λ m. IsFourAt plane_grid 8 s m (a ∷ b ∷ c ∷ d ∷ []) part) (sym (below.1.level (suc k) at)) below.1 in
      let parts = parts_at k part a b c d four in
      let each = quarters k part a b c d corner covers four in
      four_of k part a b c d corner covers four nw ne sw se
      (shown_is_tree nw k a corner parts.0 each.nw below.2) (shown_is_tree ne k b (east (side k) corner) parts.1 each.ne below.3)
      (shown_is_tree sw k c (south (side k) corner) parts.2 each.sw below.4) (shown_is_tree se k d (south_east (side k) corner) parts.3 each.se below.5)

  -- some tree is shown, and is that of the map
  module _ (is : IsStore plane_grid 8 IsPlaneLeaf s) where
    shown_small : (part : ℕ) (x : Option Node) → slice_get s.squares part ≡ x → IsAt s 0 part → (tree : Tree) × ShowsTree s part tree
    shown_small part None e at = absurd (node_at s 0 part None e at)
    shown_small part (Some (node.Blank t)) e at = (Blank t, blank_draws plane_grid 8 s part t e)
    shown_small part (Some (node.Leaf q)) e at =
        let l = leaf_at plane_grid 8 IsPlaneLeaf s is.canonical (omega arith) part q e in
        (Leaf l.0.leaf, (is.canonical.leaf q l.0 l.1, leaf_seen plane_grid 8 IsPlaneLeaf s is.canonical (omega arith) l.0 part q e l.1))
    shown_small part (Some (node.Four j a b c d)) e at = let parts = is.canonical.parts part j a b c d e in let level = node_at s 0 part (Some (node.Four j a b c d)) e at in absurd (omega (arith, parts.level, level))

    shown_large : (k part : ℕ) (x : Option Node) → slice_get s.squares part ≡ x → IsAt s (suc k) part → ((q : ℕ) → IsAt s k q → (tree : Tree) × ShowsTree s q tree) → (tree : Tree) × ShowsTree s part tree
    shown_large k part None e at below = absurd (node_at s (suc k) part None e at)
    shown_large k part (Some (node.Blank t)) e at below = (Blank t, blank_draws plane_grid 8 s part t e)
    shown_large k part (Some (node.Leaf q)) e at below = let level = node_at s (suc k) part (Some (node.Leaf q)) e at in absurd (omega (arith, level))
    shown_large k part (Some (node.Four j a b c d)) e at below =
        let four = four_seen plane_grid 8 IsPlaneLeaf s is.canonical (omega arith) plane_exact j part a b c d e in
        let parts = parts_below s k j a b c d (is.canonical.parts part j a b c d e) (node_at s (suc k) part (Some (node.Four j a b c d)) e at) in
        let nw = below a parts.0 in let ne = below b parts.1 in let sw = below c parts.2 in let se = below d parts.3 in
        (Four nw.0 ne.0 sw.0 se.0, (j, (a, (b, (c, (d, four, nw.1, ne.1, sw.1, se.1))))))

    pub shown : (k part : ℕ) → IsAt s k part → (tree : Tree) × ShowsTree s part tree
    shown zero part at = shown_small part (slice_get s.squares part) refl at
    shown (suc k) part at = shown_large k part (slice_get s.squares part) refl at (shown k)

    -- the tree of the map is shown
    pub tree_is_shown : (tree : Tree) (k part : ℕ) (corner : Place) → IsAt s k part → Covers p corner s k part → IsTreeOf p k corner tree → ShowsTree s part tree
    tree_is_shown tree k part corner at covers is_tree =
        let some = shown k part at in
        subst (λ t. ShowsTree s part t) (one_tree p p k corner some.0 tree (shown_is_tree some.0 k part corner at covers some.1) is_tree (λ c h. refl)) some.1

-- ---- planes

root_covered : (q : StampedPlane) → Covers (map_of q) plane_corner q.store 28 q.root
root_covered q u v hu hv = sym (root_read q u v (omega (arith, hu)) (omega (arith, hv)))

pub shows_its_tree : (q : StampedPlane) → IsStore plane_grid 8 IsPlaneLeaf q.store → IsAt q.store 28 q.root → ShowsItsTree q
shows_its_tree q is at = record {
  some = shown q.store (map_of q) is 28 q.root at;
  tree = λ tree. (shown_is_tree q.store (map_of q) tree 28 q.root plane_corner at (root_covered q), tree_is_shown q.store (map_of q) is tree 28 q.root plane_corner at (root_covered q));
}

-- a place of the plane is in the root's square
pub in_root : (c : Place) → is_in_plane c ≡ true → IsInSquare plane_corner (side 28) c
in_root c h =
    let parts : (is_coordinate_in_plane c.x ≡ true) × (is_coordinate_in_plane c.y ≡ true) = and_parts _ _ h in
    let x : (int_le least c.x ≡ true) × (int_lt c.x past ≡ true) = and_parts _ _ parts.0 in
    let y : (int_le least c.y ≡ true) × (int_lt c.y past ≡ true) = and_parts _ _ parts.1 in
    is_inside plane_corner (side 28) c (record { left = omega (arith, ints, x.0); right = omega (arith, ints, x.1); above = omega (arith, ints, y.0); below = omega (arith, ints, y.1) })

outside : (q : StampedPlane) (c : Place) → is_in_plane c ≡ false → map_of q c ≡ unwritten
outside q c e = rw e refl

same_inside : (q r : StampedPlane) → AreSameIn plane_corner (side 28) (map_of q) (map_of r) → AreSame (map_of q) (map_of r)
same_inside q r same c = go (is_in_plane c) refl
  where
    go : (b : Bool) → is_in_plane c ≡ b → map_of q c ≡ map_of r c
    go true e = same c (in_root c e)
    go false e = outside q c e ∙ sym (outside r c e)

pub show_same_where_same : (q r : StampedPlane) → ShowsItsTree q → ShowsItsTree r → ShowSameWhereSame q r
show_same_where_same q r hq hr = (
  λ same tree. (let e : map_of q ≡ map_of r = (λ j c. same c j) in (
    λ shows. (hr.tree tree).1 (subst (λ m. IsTreeOf m 28 plane_corner tree) e ((hq.tree tree).0 shows)),
    λ shows. (hq.tree tree).1 (subst (λ m. IsTreeOf m 28 plane_corner tree) (sym e) ((hr.tree tree).0 shows)),
  )),
  λ shown. (let tree = hq.some in same_inside q r (one_map (map_of q) (map_of r) 28 plane_corner tree.0 ((hq.tree tree.0).0 tree.1) ((hr.tree tree.0).0 ((shown tree.0).0 tree.1)))),
)
