use Rattle.tree_join.proofs.sameness.+are_same.Given as goal

abbrev pub decreases-are_same : goal.decreases-are_same
decreases-are_same l = l.above
