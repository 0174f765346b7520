use Rattle.std.proofs.Common.{sym, ◌∙◌}
use Rattle.tree_join.specs.Leaves.{writes_listed}
use Rattle.tree_join.proofs.Comparing.{leaf_is}
use Rattle.square_store.proofs.Places.{at_within}
use Rattle.tree_join.proofs.step.is_leaf.Goals as goal

pub square-requires : goal.square-requires
square-requires c = at_within c.args.plane.now.store 0 c.args.here c.requires

pub returns : goal.returns
returns c = λ h. leaf_is (writes_listed c.leaf_writes.result) c.args.leaf.now _ (rw c.square.ensures at c.leaf_writes.ensures.writes) (sym (rw c.leaf.ensures at c.eq.ensures) ∙ h)
