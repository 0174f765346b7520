use Rattle.std.proofs.Common.{ap, sym, ◌∙◌, arith}
use Rattle.std.specs.Prelude.{slice_get}
use Rattle.leaf_merge_lanes.proofs.Writes.{get-zip, at-zip, length-leaf}
use Rattle.leaf_merge_lanes.proofs.leaf.Leaf.get.Goals as goal

pub returns-clause-leaf : goal.returns-clause-leaf
returns-clause-leaf c = length-leaf _ _ _ c.self.invariant.0 c.self.invariant.1 c.self.view_is

pub returns-clause-there : goal.returns-clause-there
returns-clause-there c = sym (at-zip _ _ _ c.self.invariant.0 c.self.invariant.1 c.self.view_is c.args.i c.requires)

pub returns-clause-listed : goal.returns-clause-listed
returns-clause-listed c = ap (λ l. slice_get l c.args.i) (sym c.self.view_is) ∙ get-zip c.self.inside.stamps c.self.inside.states c.args.i (omega (arith, c.self.invariant.0)) (omega (arith, c.self.invariant.1))
