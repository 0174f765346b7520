use Rattle.std.proofs.Common.{length}
use Rattle.genedit_view.proofs.drawn.+draw_all.Given as goal

abbrev pub decreases-draw_all : goal.decreases-draw_all
decreases-draw_all l = length l.cells.now
