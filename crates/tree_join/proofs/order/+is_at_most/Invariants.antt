use Rattle.tree_join.proofs.order.+is_at_most.Given as goal

abbrev pub decreases-is_at_most : goal.decreases-is_at_most
decreases-is_at_most l = l.above
