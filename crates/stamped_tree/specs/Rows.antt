-- Worked values of the definitions.
use Rattle.std.specs.Prelude.{◌≡◌, None, ℕ, zero, suc, ◌^◌, ◌-◌, List, [], ◌∷◌, ◌++◌, pos, negsuc, refl, replicate, slice_index, slice_set, true}
use Rattle.stamped_writes.specs.declared.write.Write.{Write}
use Rattle.generations_rule.specs.Place.{at_place}
use Rattle.stamped_writes.specs.Write.{unwritten}
use Rattle.leaf_merge_lanes.specs.Leaf.{write_of}
use Rattle.square_store.specs.declared.node.Node.{Node}
use Rattle.square_store.specs.declared.node.Node.TheVariants as node
use Rattle.square_store.specs.Squares.{grid_at}
use Rattle.stamped_tree.specs.Plane.{StampedPlane, above_leaf, from_edge, map_of}
use Rattle.stamped_tree.specs.RowOrder.{half_top, row_cells}
use Rattle.stamped_tree.specs.Tree.{Tree, Blank, Four, IsTreeOf, IsPlaneTree, plane_corner}

-- levels count from single cells, and from leaves in the store
pub root_level : above_leaf 31 ≡ 28
root_level = refl

-- ---- columns

pub left_edge : from_edge (negsuc (2 ^ 30 - 1)) ≡ 0
left_edge = refl

pub middle : from_edge (pos 0) ≡ 2 ^ 30
middle = refl

pub right_edge : from_edge (pos (2 ^ 30 - 1)) ≡ 2 ^ 31 - 1
right_edge = refl

-- ---- a plane with one live cell at (0, 0): a blank, a leaf, and a square of each level from 1 to 28 above a leaf's

abbrev live : Write
live = write_of 65537 1

-- squares of levels 1 to n, each with the one below NW
abbrev squares_up_to : ℕ → List Node
squares_up_to zero = node.Blank 0 ∷ node.Leaf 0 ∷ []
squares_up_to (suc n) = squares_up_to n ++ node.Four (suc n) (suc n) 0 0 0 ∷ []

-- the leaf's corner is the middle of the plane: below the root, it is NW of each square, and SE of the root
abbrev one_cell : StampedPlane
one_cell = record {
  store = record {
    leaves = record { leaf = slice_set (replicate 64 unwritten) 0 live } ∷ [];
    squares = squares_up_to 27 ++ node.Four 28 0 0 0 28 ∷ [];
    firsts = replicate 30 None;
    room = 30;
  };
  root = 29;
}

pub at_the_cell : map_of one_cell (at_place (pos 0) (pos 0)) ≡ live
unfolding grid_at
at_the_cell = refl

pub beside_it : map_of one_cell (at_place (pos 1) (pos 0)) ≡ unwritten
unfolding grid_at
beside_it = refl

pub above_it : map_of one_cell (at_place (pos 0) (negsuc 0)) ≡ unwritten
unfolding grid_at
above_it = refl

-- a coordinate outside the plane
pub outside_it : map_of one_cell (at_place (pos (2 ^ 30)) (pos 0)) ≡ unwritten
unfolding grid_at
outside_it = refl

-- ---- trees

-- the tree of the map where nothing was written is one blank
pub unwritten_tree : IsPlaneTree (λ _. unwritten) (Blank 0)
unwritten_tree c h = refl

-- a map that is overwritten with dead cells of one stamp is one blank too, of that stamp
pub dead_tree : IsPlaneTree (λ _. write_of 65537 0) (Blank 65537)
dead_tree c h = refl

-- a square of level 3 is never of four
pub no_four : (nw ne sw se : Tree) → IsTreeOf (λ _. live) 0 plane_corner (Four nw ne sw se) → ⊥
no_four nw ne sw se h = h

-- ---- cells row by row

-- the cells of a row, without one whose state is 0
three_columns : row_cells (λ u. slice_index (1 ∷ 0 ∷ 2 ∷ []) u) 5 7 3 ≡ record { column = 5; row = 7; state = 1 } ∷ record { column = 7; row = 7; state = 2 } ∷ []
three_columns = refl

-- the southern half of a square of 32 columns begins in its 16th row
southern_half : half_top 2 true ≡ 16
southern_half = refl
