-- The texts of states of version 1, which are read and no longer written: a map under a rule, by its one tree, from left to right.
use Rattle.std.specs.Prelude.{◌≡◌, ℕ, List, ◌++◌, flat_map}
use Rattle.std.specs.Int.{w8, to_be_bytes}
use Rattle.generations_rule.specs.Rule.{GenerationsRule}
use Rattle.stamped_writes.specs.declared.write.Write.{Write}
use Rattle.stamped_writes.specs.Write.{Writes}
use Rattle.stamped_tree.specs.Tree.{Tree, Blank, Leaf, Four, IsPlaneTree}
use Rattle.delta_exchange.specs.Spelling.{head_text}
use Rattle.delta_exchange.specs.StateText.{blank_text, register_text, state_magic}

-- tag 1, and the writes row by row
unfoldable pub leaf_text : List Write → List ℕ
leaf_text writes = to_be_bytes w8 1 ++ flat_map register_text writes

-- a square by its tree: a blank, with tag 0; a leaf; or tag 2 and the quarters NW, NE, SW and SE
unfoldable pub tree_text : Tree → List ℕ
tree_text (Blank stamp) = blank_text stamp
tree_text (Leaf writes) = leaf_text writes
tree_text (Four nw ne sw se) = to_be_bytes w8 2 ++ (tree_text nw ++ (tree_text ne ++ (tree_text sw ++ tree_text se)))

-- the head, and a tree
abbrev pub tree_state_text : GenerationsRule → Tree → List ℕ
tree_state_text r tree = head_text state_magic 1 r ++ tree_text tree

-- the state text of version 1 of a rule and a map: the head, and the one tree of the map
pub record IsFirstStateText (r : GenerationsRule) (p : Writes) (text : List ℕ) : Type 0 where
  pub tree : Tree
  pub of_map : IsPlaneTree p tree
  pub spelt : text ≡ tree_state_text r tree
