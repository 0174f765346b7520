use Rattle.std.proofs.Common.{◌+◌, ◌*◌}
use Rattle.stamped_tree.proofs.draw.+draw.Given as goal

abbrev pub decreases-draw : goal.decreases-draw
decreases-draw l = 2 * l.level + 1

abbrev pub decreases-draw_anew : goal.decreases-draw_anew
decreases-draw_anew l = 2 * l.level
