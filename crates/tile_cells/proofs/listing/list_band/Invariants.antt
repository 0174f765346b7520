use Rattle.tile_cells.specs.Listing.{ListsBand}
use Rattle.tile_cells.proofs.listing.list_band.Given as goal

abbrev pub invariant-loop-row : goal.invariant-loop-row
invariant-loop-row g l = ListsBand g.row.N l.tiles.map.entries l.corners l.fn.band.first l.fn.band.past l.row l.initial.cells.items l.cells.items
