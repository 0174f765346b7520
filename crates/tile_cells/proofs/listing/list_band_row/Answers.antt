use Rattle.std.proofs.Common.{arith}
use Rattle.tile_cells.proofs.TileLemmas.{band_row_more, band_row_none, band_row_past}
use Rattle.tile_cells.proofs.listing.list_band_row.Goals as goal

pub loop-index-init : goal.loop-index-init
loop-index-init N c = band_row_none N.row.N c.args.tiles.now.map.entries c.args.corners.now c.args.band.first c.args.band.first c.args.row c.args.cells.now.items (omega arith)

pub loop-index-preserved : goal.loop-index-preserved
loop-index-preserved N c =
    band_row_more N.row.N c.args.tiles.now.map.entries c.args.corners.now c.args.band.first c.loop-index.index c.args.row c.corner_in-corner.result c.args.cells.now.items c.loop-index.cells.items _
    c.corner_in-corner.ensures c.loop-index.invariant c.in_ok-list_row.ensures

pub returns : goal.returns
returns N c = band_row_past N.row.N c.args.tiles.now.map.entries c.args.corners.now c.args.band.first c.loop-index.index c.args.band.past c.args.row c.args.cells.now.items c.loop-index.cells.items c.loop-index-test.false c.loop-index.invariant
