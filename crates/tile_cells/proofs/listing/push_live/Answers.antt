use Rattle.std.proofs.Common.{arith}
use Rattle.tile_cells.proofs.ListLemmas.{lists_pushed, lists_unpushed}
use Rattle.tile_cells.proofs.listing.push_live.Goals as goal

pub returns-in_ok-push : goal.returns-in_ok-push
returns-in_ok-push c = λ f is are. rw c.in_ok-push.ensures.items (lists_pushed f c.args.cells.now.items c.args.cell is are)

pub returns-else-cell-ne0 : goal.returns-else-cell-ne0
returns-else-cell-ne0 c = λ f is are. lists_unpushed f c.args.cells.now.items c.args.cell is are (omega (arith, c.if-cell-ne0.false))
