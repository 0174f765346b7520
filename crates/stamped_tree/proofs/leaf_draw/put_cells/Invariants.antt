use Rattle.std.proofs.Common.{◌≡◌, ◌<◌, ◌%◌, ◌/◌, ℕ}
use Rattle.std.specs.Prelude.{drop}
use Rattle.leaf_merge_lanes.specs.Leaf.{IsLeaf, write_on_leaf}
use Rattle.stamped_tree.specs.Drawing.{state_listed}
use Rattle.stamped_tree.specs.Morton.{listed_in}
use Rattle.stamped_tree.specs.Overwriting.{listed_over}
use Rattle.stamped_tree.proofs.leaf_draw.put_cells.Given as goal

abbrev pub invariant-loop-index : goal.invariant-loop-index
invariant-loop-index l = record {
  leaf : IsLeaf l.leaf;
  writes : (i : ℕ) → i < 64 → write_on_leaf l.leaf i ≡ listed_over (write_on_leaf l.fn.leaf i) l.stamp (state_listed (listed_in 8 (drop l.index l.cells)) (i % 8) (i / 8));
}
