use Rattle.std.proofs.Common.{◌∙◌}
use Rattle.tile_cells.proofs.TileLemmas.{row_more, row_none, row_past}
use Rattle.tile_cells.proofs.listing.list_live_row.Goals as goal

pub loop-column-init : goal.loop-column-init
loop-column-init N c = row_none N.row.N _ c.args.corner c.args.row c.args.cells.now.items

pub loop-column-preserved : goal.loop-column-preserved
loop-column-preserved N c =
    row_more N.row.N c.args.tile.now c.args.corner c.args.row c.loop-column.column c.cell_at.result c.args.cells.now.items c.loop-column.cells.items _ _ c.requires.row c.loop-column-test.true
    c.loop-column.invariant c.cell_at.ensures.place (c.cell_at.ensures.state ∙ c.state-state.ensures) c.in_ok-push_live.ensures

pub returns : goal.returns
returns N c = row_past N.row.N _ c.args.corner c.args.row c.loop-column.column c.args.cells.now.items c.loop-column.cells.items c.loop-column-test.false c.loop-column.invariant
