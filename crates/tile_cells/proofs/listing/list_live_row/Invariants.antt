use Rattle.std.specs.Prelude.{Some}
use Rattle.tile_cells.specs.Listing.{ListsRow}
use Rattle.tile_cells.proofs.listing.list_live_row.Given as goal

abbrev pub invariant-loop-column : goal.invariant-loop-column
invariant-loop-column g l = ListsRow g.row.N (Some l.tile) l.corner l.row l.column l.initial.cells.items l.cells.items
