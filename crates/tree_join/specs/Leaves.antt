-- The writes of squares of level 0, of 8 columns and rows.
use Rattle.std.specs.Prelude.{List}
use Rattle.stamped_writes.specs.declared.write.Write.{Write}
use Rattle.stamped_tree.specs.declared.leaf_kind.PlaneLeaf.{PlaneLeaf}
use Rattle.tree_join.specs.declared.leaf.LeafWrites.{LeafWrites}
use Rattle.tree_join.specs.declared.leaf.LeafWrites.TheVariants.{Stored, Blank}

-- the 64 writes, row by row
abbrev pub writes_listed : LeafWrites → List Write
writes_listed (Stored leaf) = leaf.now
writes_listed (Blank leaf) = leaf

-- the leaf of these writes, as a plane stores it
abbrev pub leaf_listed : List Write → PlaneLeaf
leaf_listed writes = record { leaf = writes }
