use Rattle.std.proofs.Common.{◌≡◌, ◌<◌, ◌≤◌, ◌%◌, ◌/◌, ℕ}
use Rattle.std.specs.Prelude.{if◌then◌else◌}
use Rattle.leaf_merge_lanes.specs.Leaf.{IsLeaf, write_of, write_on_leaf}
use Rattle.stamped_tree.specs.Area.{is_in_area}
use Rattle.stamped_tree.proofs.leaf_draw.clear.Given as goal

abbrev pub invariant-loop-place : goal.invariant-loop-place
invariant-loop-place l = record {
  leaf : IsLeaf l.leaf;
  before : (i : ℕ) → i < l.place → write_on_leaf l.leaf i ≡ (if is_in_area l.area (i % 8) (i / 8) then write_of l.stamp 0 else write_on_leaf l.fn.leaf i);
  after : (i : ℕ) → l.place ≤ i → i < 64 → write_on_leaf l.leaf i ≡ write_on_leaf l.fn.leaf i;
}
