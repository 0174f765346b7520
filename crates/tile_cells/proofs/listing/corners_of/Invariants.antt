use Rattle.tile_cells.proofs.TileLemmas.{AreCornersBelow}
use Rattle.tile_cells.proofs.listing.corners_of.Given as goal

abbrev pub invariant-loop-index : goal.invariant-loop-index
invariant-loop-index g l = AreCornersBelow g.row.N l.tiles.map.entries l.corners.items l.index
