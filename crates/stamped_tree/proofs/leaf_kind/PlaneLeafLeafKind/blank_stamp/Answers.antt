use Rattle.stamped_tree.proofs.Bounds.{blank_leaf}
use Rattle.stamped_tree.proofs.leaf_kind.PlaneLeafLeafKind.blank_stamp.Goals as goal

pub returns-clause-blank : goal.returns-clause-blank
returns-clause-blank c = blank_leaf c.args.self.now c.is_blank.result c.is_blank.ensures.some c.is_blank.ensures.none
