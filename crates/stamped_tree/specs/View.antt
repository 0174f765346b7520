-- What is seen at a square of a plane, one step deep, and step by step.
use Rattle.std.specs.Prelude.{◌≡◌, ℕ, [], ◌∷◌, ◌↔◌}
use Rattle.stamped_writes.specs.Write.{AreSame}
use Rattle.square_store.specs.Squares.{Held, IsAt, grid_at, side_at}
use Rattle.square_store.specs.Seen.{IsBlankAt, IsLeafAt, IsFourAt}
use Rattle.leaf_merge_lanes.specs.Leaf.{IsLeaf}
use Rattle.stamped_tree.specs.declared.leaf_kind.PlaneLeaf.{PlaneLeaf}
use Rattle.stamped_tree.specs.declared.leaf_kind.StampBounds.{StampBounds}
use Rattle.stamped_tree.specs.declared.square.View.{View}
use Rattle.stamped_tree.specs.declared.square.View.TheVariants as view
use Rattle.stamped_tree.specs.LeafKind.{plane_grid, AreStampBounds}
use Rattle.stamped_tree.specs.PlaneSquare.{PlaneSquare}
use Rattle.stamped_tree.specs.Plane.{StampedPlane, map_of}
use Rattle.stamped_tree.specs.Tree.{Tree, Blank, Leaf, Four, IsPlaneTree}

-- a square of a store at a part
abbrev pub square_at : Held PlaneLeaf → ℕ → PlaneSquare
square_at s part = record { store = s; part = part }

-- bounds of the stamps of the square's writes, which some of them reach, whatever level it is taken to have
abbrev pub AreBoundsOf : PlaneSquare → StampBounds → Type 0
AreBoundsOf q b = (k : ℕ) → IsAt q.store k q.part → AreStampBounds (side_at 8 k) (grid_at plane_grid 8 q.store k q.part) b

-- four squares together are the square of a level at q
pub record AreQuartersSeen (q nw ne sw se : PlaneSquare) : Type 0 where
  pub level : ℕ
  pub four : IsFourAt plane_grid 8 q.store level (nw.part ∷ ne.part ∷ sw.part ∷ se.part ∷ []) q.part
  pub nw_store : nw.store ≡ q.store
  pub ne_store : ne.store ≡ q.store
  pub sw_store : sw.store ≡ q.store
  pub se_store : se.store ≡ q.store

-- the square is what the view shows
abbrev pub IsView : PlaneSquare → View → Type 0
IsView q (view.Blank t) = IsBlankAt plane_grid 8 q.store t q.part
IsView q (view.Leaf l) = IsLeaf l.now × IsLeafAt plane_grid 8 q.store (record { leaf = l.now }) q.part
IsView q (view.Four nw ne sw se) = AreQuartersSeen q nw ne sw se

-- the views of the square at a part, and of all below it, show a tree
abbrev pub ShowsTree : Held PlaneLeaf → ℕ → Tree → Type 0
ShowsTree s p (Blank t) = IsBlankAt plane_grid 8 s t p
ShowsTree s p (Leaf writes) = IsLeaf writes × IsLeafAt plane_grid 8 s (record { leaf = writes }) p
ShowsTree s p (Four nw ne sw se) =
    (k : ℕ) × ((a : ℕ) × ((b : ℕ) × ((c : ℕ) × ((d : ℕ) × IsFourAt plane_grid 8 s k (a ∷ b ∷ c ∷ d ∷ []) p × ShowsTree s a nw × ShowsTree s b ne × ShowsTree s c sw × ShowsTree s d se))))

-- the root's views show the tree of the map, and no other
pub record ShowsItsTree (p : StampedPlane) : Type 0 where
  pub some : (tree : Tree) × ShowsTree p.store p.root tree
  pub tree : (tree : Tree) → ShowsTree p.store p.root tree ↔ IsPlaneTree (map_of p) tree

-- the roots of two planes show the same trees exactly where the maps are the same
abbrev pub ShowSameWhereSame : StampedPlane → StampedPlane → Type 0
ShowSameWhereSame p q = AreSame (map_of p) (map_of q) ↔ ((tree : Tree) → ShowsTree p.store p.root tree ↔ ShowsTree q.store q.root tree)
