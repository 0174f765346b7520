use Rattle.leaf_merge_lanes.proofs.Writes.{blank_places}
use Rattle.leaf_merge_lanes.proofs.leaf.Leaf.blank.Goals as goal

pub returns-clause-blank : goal.returns-clause-blank
returns-clause-blank c = blank_places c.args.stamp
