use Rattle.std.proofs.Common.{◌+◌, ◌*◌}
use Rattle.tree_join.proofs.bring.+bring.Given as goal

abbrev pub decreases-bring : goal.decreases-bring
decreases-bring l = 2 * l.above + 1

abbrev pub decreases-bring_four : goal.decreases-bring_four
decreases-bring_four l = 2 * l.above
