use Rattle.std.proofs.Common.{◌+◌, ◌*◌}
use Rattle.tree_join.proofs.sameness.+remembered.Given as goal

abbrev pub decreases-are_same_remembered : goal.decreases-are_same_remembered
decreases-are_same_remembered l = 2 * l.pair.above + 1

abbrev pub decreases-are_same_quarters : goal.decreases-are_same_quarters
decreases-are_same_quarters l = 2 * l.pair.above
