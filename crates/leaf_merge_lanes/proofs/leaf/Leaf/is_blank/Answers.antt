use Rattle.std.proofs.Common.{sym, ◌∙◌}
use Rattle.leaf_merge_lanes.specs.Same.{same_Decides}
use Rattle.leaf_merge_lanes.proofs.Writes.{not_blank}
use Rattle.leaf_merge_lanes.proofs.leaf.Leaf.is_blank.Goals as goal

pub returns-then-eq-clause-some : goal.returns-then-eq-clause-some
returns-then-eq-clause-some c = let e = (same_Decides c.args.self.now c.blank.result).0 (sym c.eq.ensures ∙ c.if-eq.true) in rw e c.blank.ensures.blank

pub returns-else-eq-clause-none : goal.returns-else-eq-clause-none
returns-else-eq-clause-none c = not_blank _ _ _ _ c.self.invariant.0 c.self.invariant.1 c.self.view_is c.blank.ensures.whole (sym c.eq.ensures ∙ c.if-eq.false)
