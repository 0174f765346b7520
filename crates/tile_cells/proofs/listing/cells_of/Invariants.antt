use Rattle.tile_cells.proofs.TileLemmas.{AreListedBelow}
use Rattle.tile_cells.proofs.listing.cells_of.Given as goal

abbrev pub invariant-loop-index : goal.invariant-loop-index
invariant-loop-index g l = AreListedBelow g.row.N l.tiles.map.entries l.corners.items l.first l.index l.cells.items
