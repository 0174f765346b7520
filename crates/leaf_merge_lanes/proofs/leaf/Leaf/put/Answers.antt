use Rattle.std.proofs.Common.{ap, sym, ◌∙◌}
use Rattle.std.specs.Prelude.{slice_set}
use Rattle.leaf_merge_lanes.proofs.Writes.{set-zip}
use Rattle.leaf_merge_lanes.proofs.leaf.Leaf.put.Goals as goal

pub returns : goal.returns
returns c = set-zip c.self.inside.stamps c.self.inside.states c.args.i c.args.write.stamp c.args.write.state (c.self.invariant.0 ∙ sym c.self.invariant.1) ∙ ap (λ l. slice_set l c.args.i c.args.write) c.self.view_is
