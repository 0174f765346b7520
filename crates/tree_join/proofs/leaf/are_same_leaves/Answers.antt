use Rattle.std.proofs.Common.{sym, subst, Bool, ◌↔◌}
use Rattle.std.specs.Prelude.{IsTrue}
use Rattle.tree_join.specs.Leaves.{writes_listed}
use Rattle.tree_join.specs.Squares.{AreSameSquares}
use Rattle.tree_join.proofs.Comparing.{same_leaves}
use Rattle.tree_join.proofs.leaf.are_same_leaves.Goals as goal

pub returns : goal.returns
returns c = subst (λ (r : Bool). IsTrue r ↔ AreSameSquares c.args.square.now.store c.args.other.now.store 0 c.args.square.now.part c.args.other.now.part) (sym (rw (c.leaf.ensures, c.leaf-2.ensures) at c.eq.ensures))
    (same_leaves (writes_listed c.leaf_writes-writes.result) (writes_listed c.leaf_writes-others.result) _ _ c.leaf_writes-writes.ensures.writes c.leaf_writes-others.ensures.writes c.leaf_writes-writes.ensures.leaf c.leaf_writes-others.ensures.leaf)
