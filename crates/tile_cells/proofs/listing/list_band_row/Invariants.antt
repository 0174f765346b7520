use Rattle.tile_cells.specs.Listing.{ListsBandRow}
use Rattle.tile_cells.proofs.listing.list_band_row.Given as goal

abbrev pub invariant-loop-index : goal.invariant-loop-index
invariant-loop-index g l = ListsBandRow g.row.N l.tiles.map.entries l.corners l.fn.band.first l.index l.row l.initial.cells.items l.cells.items
