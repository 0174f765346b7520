use Rattle.std.proofs.Common.{◌+◌, ◌*◌}
use Rattle.tree_join.proofs.joins.+join.Given as goal

abbrev pub decreases-join_squares : goal.decreases-join_squares
decreases-join_squares l = 2 * l.pair.above + 1

abbrev pub decreases-join_quarters : goal.decreases-join_quarters
decreases-join_quarters l = 2 * l.pair.above
