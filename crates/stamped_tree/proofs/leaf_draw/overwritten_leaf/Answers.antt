use Rattle.std.proofs.Common.{refl}
use Rattle.stamped_tree.specs.Morton.{listed_in}
use Rattle.stamped_tree.proofs.Overwriting.{leaf_written, leaf_left}
use Rattle.stamped_tree.proofs.leaf_draw.overwritten_leaf.Goals as goal
use Rattle.stamped_tree.proofs.leaf_draw.overwritten_leaf.Goals.{then-not-is_empty, else-not-is_empty}

pub returns : goal.returns
returns c =
    let a = c.args in
    leaf_written a.leaf c.if-not-is_empty.leaf c.put_cells.new.leaf a.stamp a.area (listed_in 8 a.cells.now) c.requires.stamp
    (elim c.if-not-is_empty.branch [
      | then-not-is_empty w ↦ λ i h. rw w.leaf-is (w.clear.ensures.writes i h)
      | else-not-is_empty w ↦ λ i h. rw w.leaf-is (leaf_left a.leaf a.stamp a.area (w.if-not-is_empty.ensures.0 refl) i)
    ])
    c.put_cells.ensures.writes
