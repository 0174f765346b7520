use Rattle.tree_join.proofs.Comparing.{leaf_spelt}
use Rattle.tree_join.proofs.looks.blank_stamp.Goals as goal

pub returns-in-Leaf : goal.returns-in-Leaf
returns-in-Leaf c = leaf_spelt _ _ _ c.in-Leaf.ensures.1
