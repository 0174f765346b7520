use Rattle.tree_join.specs.Leaves.{writes_listed}
use Rattle.tree_join.proofs.Comparing.{leaves_at_most}
use Rattle.tree_join.proofs.leaf.is_leaf_at_most.Goals as goal

pub returns : goal.returns
returns c =
    let told = rw (c.leaf.ensures, c.leaf-2.ensures) at c.at_most.ensures in
    let squares = leaves_at_most (writes_listed c.leaf_writes-writes.result) (writes_listed c.leaf_writes-others.result) _ _ c.leaf_writes-writes.ensures.writes c.leaf_writes-others.ensures.writes in
    (λ h. squares.0 (told.0 h), λ h. told.1 (squares.1 h))
