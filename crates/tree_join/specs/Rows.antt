-- Worked values of the definitions.
use Rattle.std.specs.Prelude.{◌≡◌, None, [], ◌∷◌, refl, true, false}
use Rattle.stamped_writes.specs.Write.{unwritten}
use Rattle.leaf_merge_lanes.specs.Leaf.{write_of}
use Rattle.square_store.specs.Grid.{blank_grid}
use Rattle.square_store.specs.Squares.{Held}
use Rattle.square_store.specs.declared.node.Node.TheVariants as node
use Rattle.stamped_tree.specs.declared.leaf_kind.PlaneLeaf.{PlaneLeaf}
use Rattle.tree_join.specs.Remembered.{is_part_pair}
use Rattle.tree_join.specs.Squares.{join_grid, joined_grid}
use Rattle.square_store.specs.Squares.{grid_at}

-- the blank of the greater stamp wins, whichever side it is on
pub later_blank : joined_grid (blank_grid 65537) (blank_grid 65538) 3 4 ≡ write_of 65538 0
later_blank = refl

pub later_blank_first : joined_grid (blank_grid 65538) (blank_grid 65537) 3 4 ≡ write_of 65538 0
later_blank_first = refl

-- of equal stamps the greater state
pub state_decides : joined_grid (λ u v. write_of 65537 1) (blank_grid 65537) 0 0 ≡ write_of 65537 1
state_decides = refl

pub nothing_written : joined_grid (blank_grid 0) (blank_grid 0) 0 0 ≡ unwritten
nothing_written = refl

-- one blank in each of two stores
abbrev earlier : Held PlaneLeaf
earlier = record { leaves = []; squares = node.Blank 65537 ∷ []; firsts = None ∷ []; room = 1 }

abbrev later : Held PlaneLeaf
later = record { leaves = []; squares = node.Blank 0 ∷ node.Blank 65538 ∷ []; firsts = None ∷ None ∷ []; room = 2 }

-- place 0 of the one is joined with place 1 of the other
pub of_two_stores : join_grid earlier later 28 0 1 5 6 ≡ write_of 65538 0
unfolding grid_at
of_two_stores = refl

-- a pair is told by its level too
pub another_level : is_part_pair (record { above = 1; here = 0; there = 2 }) (record { above = 2; here = 0; there = 2 }) ≡ false
another_level = refl

pub one_pair : is_part_pair (record { above = 1; here = 0; there = 2 }) (record { above = 1; here = 0; there = 2 }) ≡ true
one_pair = refl
