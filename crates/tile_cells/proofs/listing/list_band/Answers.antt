use Rattle.tile_cells.proofs.TileLemmas.{band_more, band_none, band_past}
use Rattle.tile_cells.proofs.listing.list_band.Goals as goal

pub loop-row-init : goal.loop-row-init
loop-row-init N c = band_none N.row.N c.args.tiles.now.map.entries c.args.corners.now c.args.band.first c.args.band.past c.args.cells.now.items

pub loop-row-preserved : goal.loop-row-preserved
loop-row-preserved N c =
    band_more N.row.N c.args.tiles.now.map.entries c.args.corners.now c.args.band.first c.args.band.past c.loop-row.row c.args.cells.now.items c.loop-row.cells.items _
    c.loop-row.invariant c.in_ok-list_band_row.ensures

pub returns : goal.returns
returns N c = band_past N.row.N c.args.tiles.now.map.entries c.args.corners.now c.args.band.first c.args.band.past c.loop-row.row c.args.cells.now.items c.loop-row.cells.items c.loop-row-test.false c.loop-row.invariant
