use Rattle.genedit_view.proofs.DrawnLaws.{edit_lists}
use Rattle.genedit_view.proofs.drawn.edit_of.Goals as goal

pub returns-in-Ok-clause-cells : goal.returns-in-Ok-clause-cells
returns-in-Ok-clause-cells c = edit_lists c.args.rule.now c.in-Some.stamp c.args.cells.now c.in-Ok.edit c.requires.cells.sorted c.in-Ok.ensures.edit
